-- Each way through `is_indexed` is a case of the index rule, and the place that it looks at is below nine.
use borrow.Author.Rules.{rules}
use Rattle.query.proofs.Indexed.{place_in, not_one, not_home, by_flag}
use Rattle.query.proofs.price.is_indexed.Goals as goal

pub returns-then-set-ne1 : goal.returns-then-set-ne1
returns-then-set-ne1 c = search (rules, not_one)

pub bounds-home-r : goal.bounds-home-r
bounds-home-r c = search (rules, place_in)

pub bounds-index-r : goal.bounds-index-r
bounds-index-r c = search (rules, place_in)

pub returns-then-from-site : goal.returns-then-from-site
returns-then-from-site c = search (rules, by_flag)

pub returns-else-from-site : goal.returns-else-from-site
returns-else-from-site c = search (rules, not_home)
