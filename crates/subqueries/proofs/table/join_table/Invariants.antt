-- The loop has the sets of the relations below r.
use Prim.Native.Nat.{◌^◌}
use Rattle.subqueries.specs.Table.{TableOf}
use Rattle.subqueries.proofs.table.join_table.Given as goal

abbrev pub invariant-loop-r : goal.invariant-loop-r
invariant-loop-r l = TableOf l.joins l.table (2 ^ l.r)
