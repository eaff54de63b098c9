-- `try_lanes` meets its contract: each turn tries one lane more. Assumes nothing.
use Rattle.filler.proofs.trials.Tables.try_lanes.Goals as goal

pub trial-requires : goal.trial-requires
trial-requires g c = c.requires.1 _ c.loop-k-test.true
