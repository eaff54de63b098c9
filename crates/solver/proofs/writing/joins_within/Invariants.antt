-- `writing::joins_within` meets its contract: each turn adds the bit of one join more. Assumes nothing.
use mathlib.Core.Path.{◌≡◌}
use Rattle.solver.specs.Writing.{joins_within}
use Rattle.solver.proofs.writing.joins_within.Given as goal

abbrev pub invariant-loop-e : goal.invariant-loop-e
invariant-loop-e l = l.found ≡ joins_within l.board l.set l.e
