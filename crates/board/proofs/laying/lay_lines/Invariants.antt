-- Each turn lays the lines of one sender more.
use Rattle.board.specs.Laying.{LinesLaid}
use Rattle.board.proofs.laying.lay_lines.Given as goal

abbrev pub invariant-loop-k : goal.invariant-loop-k
invariant-loop-k l = LinesLaid l.initial.board l.board l.q l.k-counter
