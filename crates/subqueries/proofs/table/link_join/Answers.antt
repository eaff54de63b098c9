-- Where the new relation is the join's highest end, the join arrives where the other end is; elsewhere nowhere.
use borrow.Author.Rules.{rules}
use Rattle.subqueries.proofs.Upper.{link_arrives, link_none}
use Rattle.subqueries.proofs.table.link_join.Goals as goal

pub returns-then-contains : goal.returns-then-contains
returns-then-contains c = link_arrives _ _ _ _ _ (search rules) (search rules) c.link.ensures

pub returns-else-contains : goal.returns-else-contains
returns-else-contains c = link_none _ _ _ _ (λ a b. search rules)
