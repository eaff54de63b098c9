-- Each turn reads an entry of the lower half, which no turn changes, and stores the one above it.
use Prim.Native.Nat.{◌+◌}
use lib.ListN.{get_or}
use Rattle.subqueries.specs.Table.{Upper}
use Rattle.subqueries.proofs.table.double.Given as goal

abbrev pub invariant-loop-set : goal.invariant-loop-set
invariant-loop-set l = Upper l.initial.table l.table l.half l.set (λ i. get_or l.initial.table i 0 + 65536)
