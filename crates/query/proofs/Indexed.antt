-- The index rule's law: whether a set is read by its index does not depend on the limit that the set is below, as its lowest relation does not.
use Prim.Native.Nat.{ℕ, ◌^◌, ◌≤◌, ◌<◌}
use native.Mathlib.Omega.{arith}
use mathlib.Core.Path.{◌≡◌, refl}
use mathlib.Core.Bool.{Bool, true, false, ◌&&◌}
use mathlib.Core.List.{List}
use mir.Syntax.{w64}
use mir.Val.{Fits}
use lib.ListN.{length, get_or}
use lib.Count.{ones, count_trailing_zeros, trailing_le}
use lib.Dec.{eqb}
use borrow.Author.Tests.{eq-eqb, ne_eqb, eqb-true}
use Rattle.relations.specs.Code.{most_sets}
use Rattle.relations.proofs.Counts.{one_some, lowest_same, lowest_below}
use Rattle.query.specs.declared.Query.{Query}
use Rattle.query.specs.Query.{home, index, relations_of}
use Rattle.query.specs.Prices.{indexed}
use Rattle.query.specs.Indexed.{indexed_in}

-- The index rule for two limits that the set is below.
pub indexed_same : (n m : ℕ) (homes indexes : List ℕ) (S k : ℕ) → S < 2 ^ n → n ≤ m → indexed_in n homes indexes S k ≡ indexed_in m homes indexes S k
unfolding indexed_in
indexed_same n m homes indexes S k h l = go (eqb (ones S) 1) refl
  where
    go : (b : Bool) → eqb (ones S) 1 ≡ b →
        (b && (eqb (get_or homes (count_trailing_zeros n S) 0) k && eqb (get_or indexes (count_trailing_zeros n S) 0) 1)) ≡ (b && (eqb (get_or homes (count_trailing_zeros m S) 0) k && eqb (get_or indexes (count_trailing_zeros m S) 0) 1))
    go true e = rw (lowest_same n m S (one_some S (eqb-true (ones S) 1 e)) h l)
    go false e = refl

-- The index rule of a query is that of its lists.
pub indexed_in_lem : (q : Query) (n S k : ℕ) → S < 2 ^ relations_of q → relations_of q ≤ n → indexed q S k ≡ indexed_in n q.relations.home q.relations.index S k
unfolding indexed indexed_in home index
indexed_in_lem q n S k h l = indexed_same (relations_of q) n q.relations.home q.relations.index S k h l

-- What `price::is_indexed` uses: it looks at the lowest of 64 digits.
pub place_fits : (S : ℕ) → Fits w64 (count_trailing_zeros 64 S)
place_fits S = record { fits = omega (arith, trailing_le 64 S) }

nine : (S : ℕ) → ones S ≡ 1 → S < most_sets → count_trailing_zeros 9 S ≡ count_trailing_zeros 64 S
nine S e h = lowest_same 9 64 S (one_some S e) h (omega arith)

pub one_of_nine : (S : ℕ) → ones S ≡ 1 → S < most_sets → count_trailing_zeros 64 S < 9
one_of_nine S e h = omega (arith, nine S e h, lowest_below 9 S (one_some S e) h)

pub place_in : (S : ℕ) (l : List ℕ) → ones S ≡ 1 → S < most_sets → 9 ≤ length l → count_trailing_zeros 64 S < length l
place_in S l e h g = omega (arith, one_of_nine S e h)

module _ (homes indexes : List ℕ) (S k : ℕ) where
  pub not_one : (ones S ≡ 1 → ⊥) → false ≡ indexed_in 9 homes indexes S k
  unfolding indexed_in
  not_one h = rw (ne_eqb (ones S) 1 h)

  module _ (one : ones S ≡ 1) (low : S < most_sets) (h : ℕ) (is : h ≡ get_or homes (count_trailing_zeros 64 S) 0) where
    pub not_home : (h ≡ k → ⊥) → false ≡ indexed_in 9 homes indexes S k
    unfolding indexed_in
    not_home g = rw (eq-eqb (ones S) 1 one, nine S one low, ← is, ne_eqb h k g)

    pub by_flag : h ≡ k → eqb (get_or indexes (count_trailing_zeros 64 S) 0) 1 ≡ indexed_in 9 homes indexes S k
    unfolding indexed_in
    by_flag g = rw (eq-eqb (ones S) 1 one, nine S one low, ← is, eq-eqb h k g)
