-- Each turn weighs the way to one site more.
use Rattle.sender.proofs.NoDetours.{over_more}
use Rattle.sender.proofs.detours.Ways.spare_over.Goals as goal

pub loop-t-preserved : goal.loop-t-preserved
loop-t-preserved c = over_more _ _ _ _ _ _ c.loop-t.invariant c.spare_at-spare.ensures
