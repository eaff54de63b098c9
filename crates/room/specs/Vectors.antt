-- Drafts with their answers: the figures and the refusals that rule 14.11 works out. `vectors_hold` in proofs/ is their one theorem.
use Rattle.std.specs.Prelude.{ℕ, Bool, true, false, ◌&&◌, List, [], ◌∷◌, eqb}
use Rattle.room.specs.Room.{Answer, figures, refused, room}

pub record Vector : Type 0 where
  pub n : ℕ
  pub s : ℕ
  pub pairs : List ℕ
  pub answer : Answer

abbrev pub vectors : List Vector
vectors =
    -- As in Q.
    record { n = 2; s = 3; pairs = 0 ∷ 1 ∷ []; answer = figures 3 9 3 }
    -- A chain, and a star whose joins name its middle first or second.
    ∷ record { n = 4; s = 1; pairs = 0 ∷ 2 ∷ 2 ∷ 1 ∷ 0 ∷ 3 ∷ []; answer = figures 10 10 10 }
    ∷ record { n = 4; s = 2; pairs = 3 ∷ 0 ∷ 1 ∷ 3 ∷ 3 ∷ 2 ∷ []; answer = figures 11 22 24 }
    -- One relation has no join, and no trial.
    ∷ record { n = 1; s = 8; pairs = []; answer = figures 1 8 0 }
    -- 259 is not 3; no relation; ten; no site; nine.
    ∷ record { n = 259; s = 1; pairs = 0 ∷ 1 ∷ 0 ∷ 2 ∷ []; answer = refused 2 }
    ∷ record { n = 0; s = 1; pairs = []; answer = refused 2 }
    ∷ record { n = 10; s = 1; pairs = 0 ∷ 1 ∷ 0 ∷ 2 ∷ 0 ∷ 3 ∷ 0 ∷ 4 ∷ 0 ∷ 5 ∷ 0 ∷ 6 ∷ 0 ∷ 7 ∷ 0 ∷ 8 ∷ 0 ∷ 9 ∷ []; answer = refused 2 }
    ∷ record { n = 1; s = 0; pairs = []; answer = refused 2 }
    ∷ record { n = 1; s = 9; pairs = []; answer = refused 2 }
    -- A pair too few, one too many, half a pair: before any pair is judged.
    ∷ record { n = 3; s = 1; pairs = 9 ∷ 1 ∷ []; answer = refused 2 }
    ∷ record { n = 3; s = 1; pairs = 9 ∷ 1 ∷ 0 ∷ 2 ∷ 0 ∷ 1 ∷ []; answer = refused 2 }
    ∷ record { n = 3; s = 1; pairs = 9 ∷ 1 ∷ 0 ∷ 2 ∷ 0 ∷ []; answer = refused 2 }
    -- The first relation and the second out of range, before joins that do not reach all; and such joins, one of them of a relation with itself.
    ∷ record { n = 3; s = 1; pairs = 1 ∷ 1 ∷ 3 ∷ 0 ∷ []; answer = refused 3 }
    ∷ record { n = 3; s = 1; pairs = 0 ∷ 1 ∷ 0 ∷ 3 ∷ []; answer = refused 3 }
    ∷ record { n = 3; s = 1; pairs = 0 ∷ 1 ∷ 2 ∷ 2 ∷ []; answer = refused 4 }
    ∷ record { n = 4; s = 1; pairs = 0 ∷ 1 ∷ 1 ∷ 2 ∷ 2 ∷ 0 ∷ []; answer = refused 4 }
    ∷ []

abbrev pub same : Answer → Answer → Bool
same (figures a b c) (figures x y z) = eqb a x && (eqb b y && eqb c z)
same (refused a) (refused x) = eqb a x
same (figures a b c) (refused x) = false
same (refused a) (figures x y z) = false

unfoldable pub answered : Vector → Bool
answered v = same (room v.n v.s v.pairs) v.answer

abbrev pub every_answered : List Vector → Bool
every_answered [] = true
every_answered (v ∷ vs) = answered v && every_answered vs
