-- Each place has its relation's neighbours.
use borrow.Author.Rules.{rules}
use Rattle.relations.proofs.Made.{made_listed}
use Rattle.sizing.proofs.Turns.{near_all}
use Rattle.sizing.proofs.neighbours.neighbours.Goals as goal

pub returns : goal.returns
returns c = near_all _ _ _ c.requires c.ends-around.ensures (made_listed _ _ _ (λ i y q k. (search rules, search rules)) _ _ c.from_fn.ensures.items)
