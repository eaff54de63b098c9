-- The reads by what is spared of them, as the code takes them: a join follows one index, so it spares the larger of what its operands' indexes can.
use Rattle.std.specs.Prelude.{ℕ, Bool, leb}
use Rattle.query.specs.Choice.{pick}

-- What the index of an operand can spare: its size where it qualifies, else nothing.
abbrev pub spareable : Bool → ℕ → ℕ
spareable qualifies x = pick qualifies x 0

-- What a join spares, by what it can spare of each operand: the larger.
abbrev pub spared : ℕ → ℕ → ℕ
spared v w = pick (leb v w) w v
