-- The index rule of `Prices` over the two lists that it reads, for sets of relations below n.
use Rattle.std.specs.Prelude.{ℕ, Bool, ◌&&◌, List, get_or, eqb}
use Rattle.std.specs.Int.Count.{ones}
use Rattle.relations.specs.Sets.{lowest}

unfoldable pub indexed_in : ℕ → List ℕ → List ℕ → ℕ → ℕ → Bool
indexed_in n homes indexes S k = eqb (ones S) 1 && (eqb (get_or homes (lowest n S) 0) k && eqb (get_or indexes (lowest n S) 0) 1)
