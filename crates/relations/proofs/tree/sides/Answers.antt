-- Each turn stores the side of join e.
use native.Mathlib.Omega.{arith}
use Rattle.relations.specs.Trees.{part, side}
use Rattle.relations.proofs.Listed.{listed_next}
use Rattle.relations.proofs.Drawing.{single_growable}
use Rattle.relations.proofs.tree.sides.Goals as goal

pub grow-requires : goal.grow-requires
grow-requires c =
    let d = c.requires in
    let h = c.loop-e-test.true in
    (_, single_growable _ _ _ _ _ d c.ends-around.ensures (d.first_in _ h) c.whole-every.ensures (c.firsts-from.ensures.each _ h))

pub loop-e-preserved : goal.loop-e-preserved
unfolding side part
loop-e-preserved c =
    let d = c.requires in
    let h = c.loop-e-test.true in
    let from = c.firsts-from.ensures.each c.loop-e.e h in
    let grown = c.grow.ensures _ (single_growable _ _ _ _ _ d c.ends-around.ensures (d.first_in _ h) c.whole-every.ensures from) in
    listed_next _ _ _ _ _ c.loop-e.invariant (omega (arith, d.few, h)) (cc)
