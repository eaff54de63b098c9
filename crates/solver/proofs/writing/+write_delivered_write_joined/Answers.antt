-- `writing::write_delivered` and `writing::write_joined` meet their contracts: each piece is written where the last one ended. Assumes nothing.
use borrow.Author.Rules.{rules}
use Rattle.rules.proofs.Combinations.{plus_combines}
use Rattle.solver.proofs.Pieces.{one_few, one_low, set_low, set_carriable, last_low, load_room, sent_asked, one_delivers, join_asked, sent_on_asked, more_delivers, due_delivers, parts_in, joined_low, part_due, rest_due, last_asked, joins}
use Rattle.solver.proofs.writing.+write_delivered_write_joined.Goals as goal

pub write_delivered-homes_at-requires : goal.write_delivered-homes_at-requires
write_delivered-homes_at-requires t c = search (rules, one_low, plus_combines)

pub write_delivered-put-requires : goal.write_delivered-put-requires
write_delivered-put-requires t c = (search (rules, load_room, plus_combines), search (rules, one_few))

pub write_delivered-size_of-requires : goal.write_delivered-size_of-requires
write_delivered-size_of-requires t c = let p = c.requires in set_low _ plus_combines _ _ _ _ p.0 p.1.0

pub write_delivered-invariant_of-sending : goal.write_delivered-invariant_of-sending
write_delivered-invariant_of-sending t c = let p = c.requires in record { carriable = set_carriable _ plus_combines _ _ _ _ _ c.size_of.ensures p.0 p.1.0 }

pub write_delivered-invariant_of-sending-2 : goal.write_delivered-invariant_of-sending-2
write_delivered-invariant_of-sending-2 t c = let p = c.requires in record { carriable = set_carriable _ plus_combines _ _ _ _ _ c.size_of.ensures p.0 p.1.0 }

pub write_delivered-put_route-requires : goal.write_delivered-put_route-requires
write_delivered-put_route-requires t c =
    let asked = sent_asked _ plus_combines _ _ _ _ _ _ c.args.plan.now.bytes.now c.if-due-eq1.true c.homes_at.ensures _ _ c.put.ensures.wrote _ c.size_of.ensures c.requires in
    record { carried = asked.0; room = asked.1 }

pub write_delivered-returns-then-due-eq1-clause-wrote : goal.write_delivered-returns-then-due-eq1-clause-wrote
write_delivered-returns-then-due-eq1-clause-wrote t c = one_delivers _ plus_combines _ _ _ _ _ _ c.args.plan.now.bytes.now c.if-due-eq1.true c.homes_at.ensures _ _ c.put.ensures.wrote _ c.size_of.ensures _ _ c.put_route.ensures.wrote

pub write_delivered-write_joined-requires : goal.write_delivered-write_joined-requires
write_delivered-write_joined-requires t c = join_asked _ plus_combines _ _ _ _ _ _ c.args.plan.now.bytes.now c.if-due-eq1.false c.join_site-from.ensures.0 _ (c.decreases, c.requires)

pub write_delivered-put_route-requires-2 : goal.write_delivered-put_route-requires-2
write_delivered-put_route-requires-2 t c =
    let asked = sent_on_asked _ plus_combines _ _ _ _ _ _ c.args.plan.now.bytes.now c.if-due-eq1.false c.join_site-from.ensures.0 _ _ c.write_joined.ensures.wrote _ c.size_of.ensures c.requires _ c.join_site-from.ensures.1 in
    record { carried = asked.0; room = asked.1 }

pub write_delivered-returns-clause-wrote : goal.write_delivered-returns-clause-wrote
write_delivered-returns-clause-wrote t c = more_delivers _ plus_combines _ _ _ _ _ _ c.args.plan.now.bytes.now c.if-due-eq1.false c.join_site-from.ensures.0 _ _ c.write_joined.ensures.wrote _ c.size_of.ensures _ _ c.put_route-2.ensures.wrote

pub write_joined-side_at-requires : goal.write_joined-side_at-requires
write_joined-side_at-requires t c = search (rules, last_low, plus_combines)

pub write_joined-due_at-one-requires : goal.write_joined-due_at-one-requires
write_joined-due_at-one-requires t c =
    let p = parts_in _ plus_combines _ _ _ _ _ _ _ c.args.plan.now.bytes.now c.last_join-e.ensures c.side_at.ensures c.split-parts.ensures c.requires in
    ((p.0.0, joined_low _ plus_combines _ _ _ _ _ _ _ c.args.plan.now.bytes.now c.last_join-e.ensures c.side_at.ensures c.split-parts.ensures c.requires), p.0.1)

pub write_joined-write_delivered-requires : goal.write_joined-write_delivered-requires
write_joined-write_delivered-requires t c = part_due _ plus_combines _ _ _ _ _ _ _ c.args.plan.now.bytes.now c.last_join-e.ensures c.side_at.ensures c.split-parts.ensures _ _ c.due_at-one.ensures (c.decreases, c.requires)

pub write_joined-due_at-other-requires : goal.write_joined-due_at-other-requires
write_joined-due_at-other-requires t c =
    let p = parts_in _ plus_combines _ _ _ _ _ _ _ c.args.plan.now.bytes.now c.last_join-e.ensures c.side_at.ensures c.split-parts.ensures c.requires in
    ((p.1.0, joined_low _ plus_combines _ _ _ _ _ _ _ c.args.plan.now.bytes.now c.last_join-e.ensures c.side_at.ensures c.split-parts.ensures c.requires), p.1.1)

pub write_joined-write_delivered-requires-2 : goal.write_joined-write_delivered-requires-2
write_joined-write_delivered-requires-2 t c =
    rest_due _ plus_combines _ _ _ _ _ _ _ _ c.last_join-e.ensures c.side_at.ensures c.split-parts.ensures _ _
    (due_delivers _ plus_combines _ _ _ _ _ _ _ _ _ c.due_at-one.ensures c.write_delivered.ensures.wrote) _ _ c.due_at-other.ensures (c.decreases, c.requires)

pub write_joined-put-requires : goal.write_joined-put-requires
write_joined-put-requires t c =
    last_asked _ plus_combines _ _ _ _ _ _ _ _ c.last_join-e.ensures c.side_at.ensures c.split-parts.ensures _ _
    (due_delivers _ plus_combines _ _ _ _ _ _ _ _ _ c.due_at-one.ensures c.write_delivered.ensures.wrote) _ _
    (due_delivers _ plus_combines _ _ _ _ _ _ _ _ _ c.due_at-other.ensures c.write_delivered-2.ensures.wrote) c.requires

pub write_joined-returns-clause-wrote : goal.write_joined-returns-clause-wrote
write_joined-returns-clause-wrote t c =
    joins _ plus_combines _ _ _ _ _ _ _ _ c.last_join-e.ensures c.side_at.ensures c.split-parts.ensures _ _
    (due_delivers _ plus_combines _ _ _ _ _ _ _ _ _ c.due_at-one.ensures c.write_delivered.ensures.wrote) _ _
    (due_delivers _ plus_combines _ _ _ _ _ _ _ _ _ c.due_at-other.ensures c.write_delivered-2.ensures.wrote) _ _ c.put.ensures.wrote
