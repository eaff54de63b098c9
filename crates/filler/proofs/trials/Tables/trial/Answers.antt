-- `trial` meets its contract: two cells, each at most the figure of none, and a price keep below 2^62. Assumes nothing.
use native.Mathlib.Omega.{arith}
use borrow.Author.Rules.{rules}
use Rattle.filler.proofs.Trying.{both_most, trial_is}
use Rattle.filler.proofs.trials.Tables.trial.Goals as goal

pub returns : goal.returns
returns c = (
  trial_is _ _ _ _ _ _ _ c.place-a.ensures c.place-b.ensures _ _ (search rules) c.price_at-price.ensures.0,
  omega (arith, both_most _ _ _ _ _ _ _ c.place-a.ensures c.place-b.ensures c.requires, c.combine-both.ensures, c.price_at-price.ensures.1),
)
