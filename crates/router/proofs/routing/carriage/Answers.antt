-- Each turn weighs one number of sends more.
use native.Mathlib.Omega.{arith}
use Rattle.router.proofs.Weighed.{least_none, least_more}
use Rattle.router.proofs.routing.carriage.Goals as goal

pub loop-i-init : goal.loop-i-init
loop-i-init c = (least_none _, omega arith)

pub loop-i-preserved : goal.loop-i-preserved
loop-i-preserved c = (least_more _ _ _ _ c.loop-i.invariant.0 c.lesser-least.ensures.0, c.lesser-least.ensures.1)
