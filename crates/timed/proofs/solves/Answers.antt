-- Each turn solves on the same planner, and counts what its solve finds.
use borrow.Author.Rules.{rules}
use Rattle.timed.proofs.Counting.{counted_more}
use Rattle.timed.proofs.solves.Goals as goal

pub loop-preserved : goal.loop-preserved
loop-preserved c = search (rules, counted_more)
