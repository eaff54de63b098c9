-- Each turn adds the figures of one send more.
use Rattle.router.specs.Routing.{RoutesTo}
use Rattle.router.proofs.routing.routes_to.Given as goal

abbrev pub invariant-loop-i : goal.invariant-loop-i
invariant-loop-i l = RoutesTo l.sending.board.now l.sending.size.0 l.t l.i l.table
