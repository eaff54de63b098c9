-- `sends::Writer::put_detour` meets its contract: each turn adds the figures of one send more, until as many are tried as the route has. Assumes nothing.
use native.Mathlib.Omega.{arith}
use Rattle.router.proofs.FewestSends.{searching_none, searching_more, searched}
use Rattle.router.proofs.sends.Writer.put_detour.Goals as goal

pub loop-table-init : goal.loop-table-init
loop-table-init c = let p = c.requires.carried in searching_none _ _ _ _ p.0.1 c.args.sending.carriable.few

pub add_sends-requires : goal.add_sends-requires
add_sends-requires c =
    let p = c.requires.carried in
    let more = searching_more _ _ _ _ _ _ _ c.args.sending.carriable.few p.0.0 p.1 c.loop-table.invariant c.loop-table-test.true in
    (omega (arith, more.0, c.args.sending.carriable.few), c.loop-table.invariant.rows.figured)

pub loop-table-preserved : goal.loop-table-preserved
loop-table-preserved c =
    let p = c.requires.carried in
    (searching_more _ _ _ _ _ _ _ c.args.sending.carriable.few p.0.0 p.1 c.loop-table.invariant c.loop-table-test.true).1 _ c.add_sends.ensures

pub returns-clause-wrote : goal.returns-clause-wrote
returns-clause-wrote c =
    let p = c.requires.carried in
    rw (searched _ _ _ _ _ _ _ c.args.sending.carriable.few p.0.0 p.1 c.loop-table.invariant c.loop-table-test.false) c.put_sends.ensures.wrote

pub put_sends-requires-clause-room : goal.put_sends-requires-clause-room
put_sends-requires-clause-room c =
    let p = c.requires.carried in
    rw (← searched _ _ _ _ _ _ _ c.args.sending.carriable.few p.0.0 p.1 c.loop-table.invariant c.loop-table-test.false) c.requires.room
