-- The loop has added the joins below e; what came by doubling leaves room for all of them.
use native.Mathlib.Omega.{arith}
use borrow.Author.Rules.{rules}
use Rattle.subqueries.proofs.Upper.{doubled_roomy, linked_roomy, linked_none, linked_more, join_mask}
use Rattle.subqueries.proofs.table.add_relation.Goals as goal

pub loop-e-init : goal.loop-e-init
loop-e-init c = (doubled_roomy _ _ _ c.requires.0 c.double.ensures, linked_none _ _ _)

pub link_join-requires : goal.link_join-requires
link_join-requires c =
    let inv = c.loop-e.invariant in
    (linked_roomy _ _ _ _ _ inv.0 inv.1 (search rules), omega (arith, join_mask _ _ 8 c.single.ensures (search rules) (search rules)))

pub loop-e-preserved : goal.loop-e-preserved
loop-e-preserved c = let inv = c.loop-e.invariant in (inv.0, linked_more _ _ _ _ _ _ _ inv.1 c.link_join.ensures (search rules))
