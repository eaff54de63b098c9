-- Subqueries, each weighed by how many joins it has. A subquery of two relations or more goes to the set of its joins, to which no other goes, since a
-- set that has its joins is closed within it and holds it whole. So the subqueries of a tree of m joins weigh no more than the m + 1 single relations and the
-- sets of joins that are not empty.
use Prim.Native.Nat.{ℕ, zero, suc, ◌+◌, ◌-◌, ◌^◌, ◌≤◌, ◌<◌}
use mathlib.Core.Path.{◌≡◌, sym, ap, ◌∙◌}
use mathlib.Core.Bool.{Bool, true, false, not}
use native.Mathlib.Numerals.{add-one}
use native.Mathlib.Omega.{arith}
use borrow.Author.Tests.{eqb-true, eqb-false, not-true}
use lib.Count.{ones}
use lib.Dec.{eqb}
use lib.Pow.{pow_pos}
use Rattle.relations.specs.declared.Joins.{Joins}
use Rattle.relations.specs.Sets.{bit, Sub, lowest}
use Rattle.relations.specs.Growth.{first, inside}
use Rattle.relations.specs.Trees.{is_subquery, Subquery, joins_in, Tree, join_bits}
use Rattle.relations.specs.Code.{or_none}
use Rattle.relations.proofs.Bits.{sub_antisym}
use Rattle.relations.proofs.Counts.{ones_zero, ones_pos, ones_more, one_some, lowest_below, single_of_ones}
use Rattle.relations.proofs.Leads.{inside_ends, ends_inside}
use Rattle.relations.proofs.Connected.{conn_of, subquery_range}
use Rattle.relations.proofs.JoinCounts.{joins_count}
use Rattle.relations.proofs.Subqueries.{subqueries_law}
use Rattle.relations.proofs.JoinBits.{joins_next, bits_next, or_none_le, or_none_some, bits_below, bits_high, bits_inside, join_of_bit}
use Rattle.relations.proofs.Sums.{sum, sum_add, besides, besides_other, sum_besides, sum_into}

-- What a set weighs where a subquery of k joins weighs w k, and a set that is no subquery nothing.
unfoldable pub weight : Joins → ℕ → (ℕ → ℕ) → ℕ → ℕ
weight J n w T = or_none (is_subquery J n T) (w (ones T - 1))

-- A sum in two, by a test.
pub sum_tested : (m : ℕ) (test : ℕ → Bool) (f : ℕ → ℕ) → sum m f ≡ sum m (λ i. or_none (test i) (f i)) + sum m (λ i. or_none (not (test i)) (f i))
sum_tested m test f = sum_add m f (λ i. or_none (test i) (f i)) (λ i. or_none (not (test i)) (f i)) (λ i l. parts (test i) (f i))
  where
    parts : (d : Bool) (x : ℕ) → x ≡ or_none d x + or_none (not d) x
    parts true x = omega arith
    parts false x = omega arith

-- The joins as a set are as many as they are.
pub bits_count : (J : Joins) (S m : ℕ) → ones (join_bits J S m) ≡ joins_in J S m
unfolding join_bits joins_in
bits_count J S zero = ones_zero
bits_count J S (suc m) = ap ones (bits_next J S m) ∙ omega (arith, plus (join_bits J S m) (inside J S m) (bits_high J S m m (omega arith)), bits_count J S m, joins_next J S m)
  where
    plus : (B : ℕ) (d : Bool) → bit B m ≡ 0 → ones (B + or_none d (2 ^ m)) ≡ ones B + or_none d 1
    plus B true h = ones_more B m h
    plus B false h = let same : B + 0 ≡ B = omega arith in ap ones same ∙ omega arith

module _ (J : Joins) (n : ℕ) (w : ℕ → ℕ) (T : ℕ) where
  pub weight_is : Subquery J n T → weight J n w T ≡ w (ones T - 1)
  unfolding weight
  weight_is s = rw s

  weight_some : 0 < weight J n w T → Subquery J n T
  unfolding weight
  weight_some p = (or_none_some (is_subquery J n T) (w (ones T - 1)) p).0

module _ (J : Joins) (n : ℕ) (t : Tree J n) where
  -- A subquery with a join lies in every set that has its joins: that set is closed in it.
  same_joins : (T U : ℕ) → Subquery J n T → 1 < ones T → join_bits J T J.count ≡ join_bits J U J.count → Sub T U
  same_joins T U s more e =
      let found = (subqueries_law J n t).some_join T s more in
      let here = inside_ends J U found.0 (kept found.0 found.1 found.2) in
      (conn_of J n T s).whole U (λ i l d f g. let ends = inside_ends J U i (kept i l (ends_inside J T i f g)) in omega (arith, ends.0, ends.1))
      (first J found.0) (inside_ends J T found.0 found.2).0 here.0
    where
      kept : (i : ℕ) → i < J.count → inside J T i ≡ true → inside J U i ≡ true
      kept i l h = (join_of_bit J U J.count i (sym (ap (λ (B : ℕ). bit B i) e) ∙ bits_inside J T J.count i l ∙ ap (λ (d : Bool). or_none d 1) h)).1

  module _ (w : ℕ → ℕ) where
    -- A subquery of one relation goes to that relation.
    singles : sum (2 ^ n) (λ T. or_none (eqb (ones T) 1) (weight J n w T)) ≤ sum n (λ r. w 0)
    singles = sum_into (2 ^ n) n _ (λ r. w 0) (lowest n) (record {
      there = λ T l p. lowest_below n T (one_some T (one T p)) l;
      enough = λ T l p.
          let s = weight_some J n w T (or_none_some (eqb (ones T) 1) (weight J n w T) p).1 in
          omega (arith, or_none_le (eqb (ones T) 1) (weight J n w T), weight_is J n w T s, ap (λ (x : ℕ). w (x - 1)) (one T p));
      apart = λ T U l k p q e. single_of_ones n T l (one T p) ∙ ap (λ (r : ℕ). 2 ^ r) e ∙ sym (single_of_ones n U k (one U q));
    })
      where
        one : (T : ℕ) → 0 < or_none (eqb (ones T) 1) (weight J n w T) → ones T ≡ 1
        one T p = eqb-true (ones T) 1 (or_none_some (eqb (ones T) 1) (weight J n w T) p).0

    -- A larger one goes to the set of its joins.
    larger : sum (2 ^ n) (λ T. or_none (not (eqb (ones T) 1)) (weight J n w T)) ≤ sum (2 ^ J.count) (besides 0 (λ E. w (ones E)))
    larger = sum_into (2 ^ n) (2 ^ J.count) _ (besides 0 (λ E. w (ones E))) (λ T. join_bits J T J.count) (record {
      there = λ T l p. bits_below J T J.count;
      enough = λ T l p.
          let s = is T p in
          let count : ones (join_bits J T J.count) ≡ ones T - 1 = omega (arith, bits_count J T J.count, joins_count J n t T s) in
          omega (
            arith,
            or_none_le (not (eqb (ones T) 1)) (weight J n w T),
            weight_is J n w T s,
            ap w count,
            besides_other 0 (λ E. w (ones E)) (join_bits J T J.count) (λ e. omega (arith, ap ones e, ones_zero, more T p)),
          );
      apart = λ T U l k p q e. sub_antisym T U (same_joins T U (is T p) (more T p) e) (same_joins U T (is U q) (more U q) (sym e));
    })
      where
        is : (T : ℕ) → 0 < or_none (not (eqb (ones T) 1)) (weight J n w T) → Subquery J n T
        is T p = weight_some J n w T (or_none_some (not (eqb (ones T) 1)) (weight J n w T) p).1

        more : (T : ℕ) → 0 < or_none (not (eqb (ones T) 1)) (weight J n w T) → 1 < ones T
        more T p =
            let not_one : ones T ≡ 1 → ⊥ = eqb-false (ones T) 1 (not-true (eqb (ones T) 1) (or_none_some (not (eqb (ones T) 1)) (weight J n w T) p).0) in
            omega (arith, ones_pos T (subquery_range J n T (is T p)).0, not_one)

    -- One relation more than joins.
    pub relations_weigh : sum n (λ r. w 0) ≡ sum J.count (λ r. w 0) + w 0
    unfolding sum
    relations_weigh = ap (λ (m : ℕ). sum m (λ r. w 0)) (sym t.joins ∙ add-one J.count)

    pub weighed_most : sum (2 ^ n) (weight J n w) ≤ sum J.count (λ r. w 0) + sum (2 ^ J.count) (λ E. w (ones E))
    weighed_most =
        omega (
          arith,
          sum_tested (2 ^ n) (λ T. eqb (ones T) 1) (weight J n w),
          singles,
          larger,
          relations_weigh,
          sum_besides (2 ^ J.count) 0 (λ E. w (ones E)) (pow_pos J.count),
          ap w ones_zero,
        )
