-- `try_lanes` meets its contract: each turn tries one lane more. Assumes nothing.
use Prim.Native.Nat.{◌+◌}
use Rattle.filler.specs.Trials.{lent_of, trial_of}
use Rattle.sender.specs.Rows.{TriedFrom}
use Rattle.filler.proofs.trials.Tables.try_lanes.Given as goal

abbrev pub invariant-loop-k : goal.invariant-loop-k
invariant-loop-k g l = TriedFrom l.initial.row l.row (trial_of ◌+◌ (lent_of l.self) l.parts.first l.parts.second l.spared) 0 l.k
