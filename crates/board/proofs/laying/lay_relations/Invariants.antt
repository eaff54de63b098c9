-- Each turn lays one relation more.
use Rattle.board.specs.Laying.{RelationsLaid}
use Rattle.board.proofs.laying.lay_relations.Given as goal

abbrev pub invariant-loop-r : goal.invariant-loop-r
invariant-loop-r l = RelationsLaid l.initial.board l.board l.q l.r
