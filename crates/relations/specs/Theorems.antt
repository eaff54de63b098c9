-- What is proved of growth, trees and splits, over the number n of relations as a parameter. The proofs are in proofs/.
use Rattle.std.specs.Prelude.{ℕ, ◌+◌, ◌^◌, ◌≤◌, ◌<◌, ◌≡◌, true, ◌&&◌, ltb, eqb}
use Rattle.std.specs.Int.Count.{ones}
use Rattle.relations.specs.declared.Joins.{Joins}
use Rattle.relations.specs.Sets.{bit, Sub, Apart, all}
use Rattle.relations.specs.Growth.{first, second, inside, grow, Closed}
use Rattle.relations.specs.Trees.{is_subquery, Subquery, subqueries, part, rest, side, joins_in, Tree}

-- The set that A grows to within S, skipping x: the least closed set that holds A.
pub record Grown (J : Joins) (S x A B : ℕ) : Type 0 where
  pub has : Sub A B
  pub within : Sub B S
  pub closed : Closed J S x B
  pub least : (C : ℕ) → Closed J S x C → Sub A C → Sub B C

-- Growth is the least closed set: k steps are enough where S has at most k relations more than A.
abbrev pub GrowthLeast : Type 0
GrowthLeast = (J : Joins) (S x k A : ℕ) → Sub A S → ones S ≤ ones A + k → Grown J S x A (grow J S x k A)

-- In a tree every join e has its second relation outside the growth from its first relation that skips e.
abbrev pub SideApart : Type 0
SideApart = (J : Joins) (n : ℕ) → Tree J n → (e : ℕ) → e < J.count → (bit (side J n e) (first J e) ≡ 1) × (bit (side J n e) (second J e) ≡ 0)

-- Two disjoint subqueries with one end of e each make a subquery whose parts by e they are.
pub record Union (J : Joins) (n P R e : ℕ) : Type 0 where
  pub subquery : Subquery J n (P + R)
  pub within : inside J (P + R) e ≡ true
  pub first_is : part J n (P + R) e ≡ P
  pub second_is : rest J n (P + R) e ≡ R

abbrev pub UnionLaw : Type 0
UnionLaw =
    (J : Joins) (n : ℕ) → Tree J n → (P R e : ℕ) → Subquery J n P → Subquery J n R → Apart P R → e < J.count → bit P (first J e) ≡ 1 →
    bit R (second J e) ≡ 1 → Union J n P R e

-- In a tree a set that is not empty is a subquery exactly when it holds one join fewer than relations: the test that needs no growth.
abbrev pub SubqueryByCount : Type 0
SubqueryByCount =
    (J : Joins) (n : ℕ) → Tree J n → (S : ℕ) → S < 2 ^ n → is_subquery J n S ≡ (ltb 0 S && eqb (joins_in J S J.count + 1) (ones S))

-- One relation is a subquery, and so are all of them; a subquery is a set of relations and not empty.
pub record Subqueries (J : Joins) (n : ℕ) : Type 0 where
  pub single : (r : ℕ) → r < n → Subquery J n (2 ^ r)
  pub whole : Subquery J n (all n)
  pub range : (S : ℕ) → Subquery J n S → (0 < S) × (S < 2 ^ n)
  pub some_join : (S : ℕ) → Subquery J n S → 1 < ones S → (e : ℕ) × (e < J.count) × (inside J S e ≡ true)

abbrev pub SubqueriesLaw : Type 0
SubqueriesLaw = (J : Joins) (n : ℕ) → Tree J n → Subqueries J n

-- A tree of m joins has at most 2^m + m subqueries. `Heaviest` of `room` states it by n, with the trials, and that a star reaches both.
abbrev pub SubqueriesMost : Type 0
SubqueriesMost = (J : Joins) (n : ℕ) → Tree J n → subqueries J n ≤ 2 ^ J.count + J.count
