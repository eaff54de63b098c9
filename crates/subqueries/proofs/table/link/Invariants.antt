-- Each turn adds to one entry of the upper half, which no turn before it changed.
use Prim.Native.Nat.{◌+◌}
use lib.Bits.{bit_and}
use lib.Dec.{eqb}
use lib.ListN.{get_or}
use Rattle.relations.specs.Code.{or_none}
use Rattle.subqueries.specs.Table.{Upper}
use Rattle.subqueries.proofs.table.link.Given as goal

abbrev pub invariant-loop-set : goal.invariant-loop-set
invariant-loop-set l =
    Upper l.initial.table l.table l.half l.set (λ i. get_or l.initial.table (l.half + i) 0 + or_none (eqb (bit_and i l.other) l.other) l.add)
