-- `other_end` takes the relation off the ends, where it is one of them.
use borrow.Author.Rules.{rules}
use Rattle.sizing.proofs.Turns.{end_there}
use Rattle.sizing.proofs.neighbours.other_end.Goals as goal

pub overflow_sub-result : goal.overflow_sub-result
overflow_sub-result c = search (rules, end_there)
