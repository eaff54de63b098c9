-- The loop has stored the side of every join below e.
use Rattle.relations.specs.Code.{SidesOf}
use Rattle.relations.proofs.tree.sides.Given as goal

abbrev pub invariant-loop-e : goal.invariant-loop-e
invariant-loop-e l = SidesOf l.joins l.found l.e
