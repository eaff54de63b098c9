-- Each call goes on from what has grown one relation further, or has grown to the end.
use mathlib.Core.Path.{refl}
use Rattle.relations.proofs.Following.{grow_done, follow_within, follow_same, follow_falls}
use Rattle.relations.proofs.growing.+grow.Goals as goal

pub grow-requires : goal.grow-requires
grow-requires t c =
    let g = c.requires.1 in
    let f = c.in-Some.ensures in
    (follow_falls _ _ _ _ _ g _ f _ refl _ c.decreases, (c.requires.0, follow_within _ _ _ _ _ g _ f _ refl))

pub returns-in-Some : goal.returns-in-Some
returns-in-Some t c =
    λ J g.
    let f = c.in-Some.ensures in
    follow_same _ _ _ _ _ g _ f _ refl _ (c.grow.ensures J (follow_within _ _ _ _ _ g _ f _ refl))

pub returns-in-None : goal.returns-in-None
returns-in-None t c = λ J g. grow_done _ _ _ _ _ g c.in-None.ensures
