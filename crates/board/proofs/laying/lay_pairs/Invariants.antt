-- Each turn lays the row of one join more.
use Rattle.board.specs.Laying.{PairsLaid}
use Rattle.board.proofs.laying.lay_pairs.Given as goal

abbrev pub invariant-loop-e : goal.invariant-loop-e
invariant-loop-e l = PairsLaid l.initial.board l.board l.q l.e
