-- `above` takes the set, and what is below its lowest relation, from all relations.
use borrow.Author.Rules.{rules}
use Rattle.sizing.proofs.Turns.{above_there, above_by}
use Rattle.sizing.proofs.working.above.Goals as goal

pub overflow_sub-result-3 : goal.overflow_sub-result-3
overflow_sub-result-3 c = search (rules, above_there)

pub returns : goal.returns
returns c = search (rules, above_by)
