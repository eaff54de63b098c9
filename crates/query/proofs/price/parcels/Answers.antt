-- `price::parcels` meets its contract: it is the definition, and a size up to its limit starts at most 125,000,000. Assumes nothing.
use borrow.Author.Rules.{rules}
use Rattle.query.specs.Prices.{parcels}
use Rattle.query.proofs.price.parcels.Goals as goal

pub returns : goal.returns
unfolding parcels
returns c = search rules
