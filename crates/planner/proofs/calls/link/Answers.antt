-- The query is valid with its line replaced, and has the same joins and relations.
use borrow.Author.Rules.{rules}
use Rattle.query.proofs.Linked.{linked_valid}
use Rattle.planner.specs.Link.{terms_in_range}
use Rattle.planner.proofs.calls.link.Goals as goal

pub invariant_of-linked-clause-valid : goal.invariant_of-linked-clause-valid
unfolding terms_in_range
invariant_of-linked-clause-valid c = rw c.relined.ensures (linked_valid c.in-Some.standing.query c.in-Some.standing.valid _ _ _ (search rules) (search rules))
