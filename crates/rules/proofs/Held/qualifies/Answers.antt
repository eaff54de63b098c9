-- `Held::qualifies` meets its contract: the set is below the limit of the lists. Assumes nothing.
use Rattle.std.proofs.Common.{rules}
use Rattle.relations.proofs.Loops.{below_sets}
use Rattle.rules.proofs.Held.qualifies.Goals as goal

pub is_indexed-requires : goal.is_indexed-requires
is_indexed-requires c = (search (rules, below_sets), (search rules, search rules))
