-- `sends::Writer::put_sends` meets its contract: the first send, then one fewer from there. Assumes nothing.
use native.Mathlib.Omega.{arith}
use mathlib.Core.Path.{refl}
use Rattle.router.proofs.Stores.{wrote_none}
use Rattle.router.proofs.RouteTables.{routes_done, sends_none, next_listed, first_room, rest_room, sends_wrote}
use Rattle.router.proofs.sends.Writer.+put_sends.Goals as goal

pub returns-then-i-eq0-clause-wrote : goal.returns-then-i-eq0-clause-wrote
returns-then-i-eq0-clause-wrote t c = rw (sends_none _ _ _ _ _ c.if-i-eq0.true) (wrote_none _ _)

pub put-requires : goal.put-requires
put-requires t c =
    let p = c.requires.routes in
    let room = c.requires.room in
    let some = c.if-i-eq0.false in
    let next = c.next_site-next.ensures in (
      first_room _ _ _ _ _ _ _ _ c.args.self.now.bytes.now p.0 some p.1.1 _ next refl room,
      omega (arith, next_listed _ _ _ _ _ _ _ _ c.args.self.now.bytes.now p.0 some p.1.1 _ next refl room, c.args.sending.carriable.few),
    )

pub put_sends-requires : goal.put_sends-requires
put_sends-requires t c =
    let p = c.requires.routes in
    let room = c.requires.room in
    let some = c.if-i-eq0.false in
    let next = c.next_site-next.ensures in (
      omega (arith, some, c.decreases),
      (
        (routes_done _ _ _ _ _ _ (omega arith) p.0, (next_listed _ _ _ _ _ _ _ _ c.args.self.now.bytes.now p.0 some p.1.1 _ next refl room, omega (arith, p.1.1))),
        omega (arith, c.put.ensures.wrote.next, rest_room _ _ _ _ _ _ _ _ c.args.self.now.bytes.now p.0 some p.1.1 _ next refl room _ _ c.put.ensures.wrote),
      ),
    )

pub returns-clause-wrote : goal.returns-clause-wrote
returns-clause-wrote t c =
    let p = c.requires.routes in
    sends_wrote _ _ _ _ _ _ _ _ c.args.self.now.bytes.now p.0 c.if-i-eq0.false p.1.1 _ c.next_site-next.ensures refl c.requires.room _ _ _ _ c.put.ensures.wrote c.put_sends.ensures.wrote
