-- `prices::size` meets its contract: a set of at most nine relations is in the list. Assumes nothing.
use Rattle.relations.proofs.Loops.{below_sets}
use Rattle.rules.proofs.prices.size.Goals as goal

pub bounds-q-set : goal.bounds-q-set
bounds-q-set c = below_sets _ _ c.requires.0.relations_most c.requires.1
