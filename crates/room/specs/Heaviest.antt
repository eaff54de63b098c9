-- The heaviest queries (rule 6.4): what no tree of n relations exceeds, and that a star reaches it. The proofs are in proofs/.
use Rattle.std.specs.Prelude.{ℕ, ◌+◌, ◌-◌, ◌*◌, ◌^◌, ◌≤◌, ◌≡◌}
use Rattle.relations.specs.declared.Joins.{Joins}
use Rattle.relations.specs.Trees.{subqueries, Tree}
use Rattle.relations.specs.Stars.{Star, star_of}
use Rattle.tables.specs.Tables.{trials_of}

abbrev pub most_subqueries : (n : ℕ) → ℕ
most_subqueries n = 2 ^ (n - 1) + n - 1

abbrev pub most_trials : (s n : ℕ) → ℕ
most_trials s n = s * (n - 1) * 2 ^ (n - 2)

pub record Heaviest (n : ℕ) : Type 0 where
  -- No tree has more subqueries or more trials,
  pub subqueries_most : (J : Joins) → Tree J n → subqueries J n ≤ most_subqueries n
  pub trials_most : (J : Joins) → Tree J n → (s : ℕ) → trials_of s J n ≤ most_trials s n
  -- every star reaches both,
  pub star_subqueries : (J : Joins) → Star J n → subqueries J n ≡ most_subqueries n
  pub star_trials : (J : Joins) → Star J n → (s : ℕ) → trials_of s J n ≡ most_trials s n
  -- and there is a star.
  pub some_star : Star (star_of n) n

-- For n of 2 or more.
abbrev pub HeaviestLaw : Type 0
HeaviestLaw = (n : ℕ) → 2 ≤ n → Heaviest n
