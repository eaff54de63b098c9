-- `joined_lanes` meets its contract: each turn tries the lowest join that is left. Assumes nothing.
use Prim.Native.Nat.{◌+◌}
use Rattle.filler.specs.Trials.{lent_of}
use Rattle.filler.proofs.Joins.{JoinedTo}
use Rattle.filler.proofs.trials.Tables.joined_lanes.Given as goal

abbrev pub invariant-loop-left : goal.invariant-loop-left
invariant-loop-left g l = JoinedTo ◌+◌ (lent_of l.self) l.joins l.set l.row l.left

abbrev pub decreases-loop-left : goal.decreases-loop-left
decreases-loop-left g l = l.left
