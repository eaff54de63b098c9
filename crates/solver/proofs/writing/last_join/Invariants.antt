-- `writing::last_join` meets its contract: each turn weighs one join more, and those that are not in the set change nothing. Assumes nothing.
use Prim.Native.Nat.{◌+◌}
use Rattle.board.specs.Figures.{ChoiceOf}
use Rattle.filler.specs.Trials.{lent_of, join_trial}
use Rattle.solver.proofs.writing.last_join.Given as goal

abbrev pub invariant-loop-e : goal.invariant-loop-e
invariant-loop-e l = ChoiceOf (join_trial ◌+◌ (lent_of l.tables) l.joins l.set l.k) l.e l.best
