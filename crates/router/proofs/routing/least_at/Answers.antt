-- Each turn weighs one site more.
use Rattle.board.proofs.LeastFigures.{choice_none, choice_more}
use Rattle.router.proofs.routing.least_at.Goals as goal

pub loop-k-init : goal.loop-k-init
loop-k-init g c = λ h gives. choice_none h

pub loop-k-preserved : goal.loop-k-preserved
loop-k-preserved g c = λ h gives. choice_more h _ _ _ _ (c.loop-k.invariant h gives) (gives _ _ c.loop-k-test.true c.figure.ensures) c.better-best.ensures
