-- A cost: a number of charge units, or none. None is that of rule 5.1: no number stands for it.
use Rattle.std.specs.Prelude.{ℕ, ◌+◌, ◌≤◌}

pub data Cost : Type 0 where
  none : Cost
  some : ℕ → Cost

-- Two costs combined: any combination with none is none.
abbrev pub both : (ℕ → ℕ → ℕ) → Cost → Cost → Cost
both f none b = none
both f (some a) none = none
both f (some a) (some b) = some (f a b)

abbrev pub plus : Cost → Cost → Cost
plus = both ◌+◌

-- A number, and at most n: none is above every number.
abbrev pub AtMost : Cost → ℕ → Type 0
AtMost none n = ⊥
AtMost (some c) n = c ≤ n
