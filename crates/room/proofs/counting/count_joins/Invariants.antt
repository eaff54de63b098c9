-- The loop has counted the joins in the subqueries below the set that it is at.
use Prim.Native.Nat.{◌+◌}
use mathlib.Core.Path.{◌≡◌}
use Rattle.tables.specs.Tables.{joins_below}
use Rattle.room.proofs.counting.count_joins.Given as goal

abbrev pub invariant-loop-set : goal.invariant-loop-set
invariant-loop-set l = l.tried ≡ joins_below l.fn.joins (l.fn.joins.count + 1) l.set
