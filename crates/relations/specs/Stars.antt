-- Stars: trees with one relation in every join.
use Rattle.std.specs.Prelude.{ℕ, zero, suc, ◌-◌, ◌<◌, ◌≡◌, List, [], ◌∷◌, ◌⊎◌, replicate}
use Rattle.relations.specs.declared.Joins.{Joins}
use Rattle.relations.specs.Growth.{first, second}
use Rattle.relations.specs.Trees.{Tree}

pub record Star (J : Joins) (n : ℕ) : Type 0 where
  pub tree : Tree J n
  pub middle : ℕ
  pub in_each : (e : ℕ) → e < J.count → (first J e ≡ middle) ⊎ (second J e ≡ middle)

-- r, r + 1, .., k of them.
unfoldable pub up_from : (r k : ℕ) → List ℕ
up_from r zero = []
up_from r (suc k) = r ∷ up_from (suc r) k

-- A star of n relations: relation 0 is joined with each other one.
abbrev pub star_of : ℕ → Joins
star_of n = record { count = n - 1; first = replicate (n - 1) 0; second = up_from 1 (n - 1) }
