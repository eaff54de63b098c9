-- `figures::better` meets its contract: each arm is a case of the definition. Assumes nothing.
use borrow.Author.Rules.{rules}
use Rattle.board.proofs.LeastFigures.{better_new, better_kept}
use Rattle.board.proofs.figures.better.Goals as goal

pub returns-then-new-kept : goal.returns-then-new-kept
returns-then-new-kept c = search (rules, better_new)

pub returns-else-new-kept : goal.returns-else-new-kept
returns-else-new-kept c = search (rules, better_kept)
