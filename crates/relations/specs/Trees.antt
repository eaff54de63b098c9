-- Subqueries, the tree condition of refusal 4, and the two parts of a subquery by a join.
use Rattle.std.specs.Prelude.{ℕ, zero, suc, ◌+◌, ◌-◌, ◌^◌, ◌<◌, ◌≡◌, Bool, true, false, ◌&&◌, eqb, ltb}
use Rattle.relations.specs.declared.Joins.{Joins}
use Rattle.relations.specs.Sets.{all, lowest}
use Rattle.relations.specs.Growth.{first, second, inside, grow}

-- A subquery: a set of relations, 0 to n - 1, connected by joins. It is not empty, and growing its lowest relation within it gives all of it.
unfoldable pub is_subquery : Joins → ℕ → ℕ → Bool
is_subquery J n S = (ltb 0 S && ltb S (2 ^ n)) && eqb (grow J S J.count n (2 ^ lowest n S)) S

abbrev pub Subquery : Joins → ℕ → ℕ → Type 0
Subquery J n S = is_subquery J n S ≡ true

-- How many of the sets below m are subqueries.
unfoldable pub count_below : Joins → ℕ → ℕ → ℕ
count_below J n zero = 0
count_below J n (suc m) = elim (is_subquery J n m) [ true ↦ suc (count_below J n m) | false ↦ count_below J n m ]

-- The number of subqueries.
abbrev pub subqueries : Joins → ℕ → ℕ
subqueries J n = count_below J n (2 ^ n)

-- The joins reach all n relations from relation 0: otherwise refusal 4.
unfoldable pub reaches : Joins → ℕ → Bool
reaches J n = eqb (grow J (all n) J.count n (2 ^ 0)) (all n)

-- The two parts of a subquery S by a join e in it: what grows from e's first relation within S without e, and the rest.
unfoldable pub part : Joins → ℕ → ℕ → ℕ → ℕ
part J n S e = grow J S e n (2 ^ first J e)

abbrev pub rest : Joins → ℕ → ℕ → ℕ → ℕ
rest J n S e = S - part J n S e

-- What refusals 2, 3 and 4 leave: one join fewer than relations, each between two of the relations, and every relation is reached.
pub record Tree (J : Joins) (n : ℕ) : Type 0 where
  pub joins : J.count + 1 ≡ n
  pub first_in : (e : ℕ) → e < J.count → first J e < n
  pub second_in : (e : ℕ) → e < J.count → second J e < n
  pub reached : reaches J n ≡ true

-- The relations on the first relation's side of join e in the whole query. A split is a mask by it: `Splits`.
unfoldable pub side : Joins → ℕ → ℕ → ℕ
side J n e = part J n (all n) e

-- How many of the joins below m lie in S.
unfoldable pub joins_in : Joins → ℕ → ℕ → ℕ
joins_in J S zero = 0
joins_in J S (suc m) = elim (inside J S m) [ true ↦ suc (joins_in J S m) | false ↦ joins_in J S m ]

-- The joins below m that lie in S, as a set of joins: the sum of 2^e over them.
unfoldable pub join_bits : Joins → ℕ → ℕ → ℕ
join_bits J S zero = 0
join_bits J S (suc m) = elim (inside J S m) [ true ↦ join_bits J S m + 2 ^ m | false ↦ join_bits J S m ]
