-- Each turn adds the figure of one site more.
use Rattle.router.specs.Routing.{SendsAdded}
use Rattle.router.proofs.routing.add_sends.Given as goal

abbrev pub invariant-loop-k : goal.invariant-loop-k
invariant-loop-k l = SendsAdded l.sending.board.now l.sending.size.0 l.i l.initial.table l.table l.k
