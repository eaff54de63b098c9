-- Each turn adds the figures of one send more.
use borrow.Author.Rules.{rules}
use Rattle.router.proofs.RouteTables.{routes_none, routes_more}
use Rattle.router.proofs.routing.routes_to.Goals as goal

pub loop-i-init : goal.loop-i-init
loop-i-init c = routes_none _ _ _ c.requires c.args.sending.carriable.few

pub loop-i-preserved : goal.loop-i-preserved
loop-i-preserved c = routes_more _ _ _ _ _ _ _ (search rules) c.args.sending.carriable.few (search rules) c.loop-i.invariant c.add_sends.ensures
