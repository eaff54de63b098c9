-- The loop has added the joins below e; what came by doubling leaves room for all of them.
use Prim.Native.Nat.{◌+◌}
use lib.ListN.{get_or}
use Rattle.subqueries.specs.Table.{arriving, Upper, Roomy}
use Rattle.subqueries.proofs.table.add_relation.Given as goal

abbrev pub invariant-loop-e : goal.invariant-loop-e
invariant-loop-e l =
    Roomy l.initial.table l.half l.half 21 × Upper l.initial.table l.table l.half l.half (λ i. get_or l.initial.table (l.half + i) 0 + arriving l.ends l.half i l.e)
