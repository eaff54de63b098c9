-- The test is the definition's.
use borrow.Author.Rules.{rules}
use Rattle.subqueries.specs.Table.{is_connected}
use Rattle.subqueries.proofs.table.is_connected.Goals as goal

pub returns : goal.returns
unfolding is_connected
returns c = search rules
