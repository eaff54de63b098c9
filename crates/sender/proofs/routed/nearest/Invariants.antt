-- Each turn weighs one site more.
use Rattle.sender.proofs.Settled.{Weighed}
use Rattle.sender.proofs.routed.nearest.Given as goal

abbrev pub invariant-loop-k : goal.invariant-loop-k
invariant-loop-k l = Weighed l.row l.left l.k l.at
