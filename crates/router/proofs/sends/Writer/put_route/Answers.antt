-- `sends::Writer::put_route` meets its contract: nothing where it stays, one send where the line costs the carriage, else the search decides. Assumes nothing.
use native.Mathlib.Omega.{arith}
use mathlib.Core.Path.{ap}
use lib.ListN.{length}
use Rattle.router.proofs.Stores.{wrote_none}
use Rattle.router.proofs.Gates.{route_stays, direct_bytes}
use Rattle.router.proofs.sends.Writer.put_route.Goals as goal

pub returns-then-k-t-clause-wrote : goal.returns-then-k-t-clause-wrote
returns-then-k-t-clause-wrote c = rw (route_stays _ _ _ _ c.requires.carried.0.0 c.if-k-t.true) (wrote_none _ _)

pub put-requires : goal.put-requires
put-requires c =
    let p = c.requires.carried in
    let bytes = direct_bytes _ _ _ _ _ _ p.0.0 p.0.1 c.if-k-t.false c.line_at-sent.ensures.0 c.if-sent-carried.true p.1 in
    (omega (arith, c.requires.room, ap length bytes), omega (arith, p.0.1, c.args.sending.carriable.few))

pub returns-then-sent-carried-clause-wrote : goal.returns-then-sent-carried-clause-wrote
returns-then-sent-carried-clause-wrote c =
    let p = c.requires.carried in
    rw (direct_bytes _ _ _ _ _ _ p.0.0 p.0.1 c.if-k-t.false c.line_at-sent.ensures.0 c.if-sent-carried.true p.1) c.put.ensures.wrote
