-- The test that needs no growth: a set with one join fewer than relations is connected. Otherwise what its lowest relation reaches and the rest
-- would share its joins, and each has fewer joins than relations, so the set would have two fewer.
use Prim.Native.Nat.{ℕ, zero, suc, ◌+◌, ◌-◌, ◌^◌, ◌≤◌, ◌<◌}
use mathlib.Core.Path.{◌≡◌, refl, sym}
use mathlib.Core.Bool.{Bool, true, false, ◌&&◌}
use mathlib.Core.Logic.{◌⊎◌, inl, inr}
use native.Mathlib.Nat.{eq-zero-or-pos}
use native.Mathlib.Decide.{dec_le}
use native.Mathlib.Omega.{arith}
use lib.Count.{ones}
use lib.Dec.{eqb, ltb}
use lib.Pow.{pow_pos}
use borrow.Author.Tests.{eqb-true, eq-eqb, ltb-true, lt-ltb}
use Rattle.relations.specs.declared.Joins.{Joins}
use Rattle.relations.specs.Sets.{bit, Sub, lowest}
use Rattle.relations.specs.Growth.{first, second, grow, Closed}
use Rattle.relations.specs.Trees.{Tree, Subquery, is_subquery, joins_in}
use Rattle.relations.specs.Theorems.{SubqueryByCount}
use Rattle.relations.proofs.Bits.{bit_le, bit_sub, le_of_sub, sub_single, below_of_sub}
use Rattle.relations.proofs.Counts.{ones_sub, lowest_in}
use Rattle.relations.proofs.Leads.{both_true}
use Rattle.relations.proofs.Growth.{grow_has, grow_within, grow_closed}
use Rattle.relations.proofs.Connected.{conn_seed, of_conn, subquery_range, enough}
use Rattle.relations.proofs.Trees.{held, held_both, held_less}
use Rattle.relations.proofs.Sums.{sum_add}
use Rattle.relations.proofs.JoinCounts.{joins_sum, joins_fewer, joins_count}

-- A join in S is in a closed part C of S or in the rest.
parted : (J : Joins) (S C : ℕ) → Sub C S → Closed J S J.count C → (i : ℕ) → i < J.count
    → held J J.count S i ≡ held J J.count C i + held J J.count (S - C) i
parted J S C within closed i l = elim (dec_le (bit S (first J i) + bit S (second J i)) 1) [
  | yes h ↦ omega (
    arith,
    held_less J J.count S i h,
    held_less J J.count C i (omega (arith, within (first J i), within (second J i))),
    held_less J J.count (S - C) i (omega (arith, left (first J i), left (second J i))),
  )
  | no h ↦ both h (bit C (first J i)) refl
]
  where
    left : (r : ℕ) → bit (S - C) r + bit C r ≡ bit S r
    left r = omega (arith, bit_sub C S within r, within r)

    both : (bit S (first J i) + bit S (second J i) ≤ 1 → ⊥) → (b : ℕ) → bit C (first J i) ≡ b
        → held J J.count S i ≡ held J J.count C i + held J J.count (S - C) i
    both h b z =
        let f : bit S (first J i) ≡ 1 = omega (arith, bit_le S (first J i), bit_le S (second J i)) in
        let g : bit S (second J i) ≡ 1 = omega (arith, bit_le S (first J i), bit_le S (second J i)) in
        let same = closed i l (λ q. omega arith) f g in
        let whole = held_both J J.count S i f g (λ q. omega arith) in
        side b z f g same whole
      where
        side : (b : ℕ) → bit C (first J i) ≡ b → bit S (first J i) ≡ 1 → bit S (second J i) ≡ 1 → bit C (first J i) ≡ bit C (second J i)
            → held J J.count S i ≡ 1 → held J J.count S i ≡ held J J.count C i + held J J.count (S - C) i
        side zero z f g same whole =
            omega (
              arith,
              held_less J J.count C i (omega arith),
              held_both J J.count (S - C) i (omega (arith, left (first J i))) (omega (arith, left (second J i))) (λ q. omega arith),
            )
        side (suc b) z f g same whole =
            omega (
              arith,
              held_less J J.count (S - C) i (omega (arith, left (first J i), left (second J i))),
              held_both J J.count C i (omega (arith, within (first J i))) (omega (arith, within (first J i))) (λ q. omega arith),
            )

pub subquery_of_count : (J : Joins) (n : ℕ) → Tree J n → (S : ℕ) → S < 2 ^ n → 0 < S → joins_in J S J.count + 1 ≡ ones S → Subquery J n S
subquery_of_count J n t S h p e = go (eq-zero-or-pos (S - C))
  where
    r : ℕ
    r = lowest n S

    here : bit S r ≡ 1
    here = lowest_in n S p h

    seed : Sub (2 ^ r) S
    seed = sub_single S r here

    -- what the lowest relation reaches
    C : ℕ
    C = grow J S J.count n (2 ^ r)

    within : Sub C S
    within = grow_within J S J.count n (2 ^ r) seed

    some : 0 < C
    some = omega (arith, le_of_sub (2 ^ r) C (grow_has J S J.count n (2 ^ r)), pow_pos r)

    go : (S - C ≡ 0) ⊎ (0 < S - C) → Subquery J n S
    go (inl none) = of_conn J n S h (conn_seed J S n r here (omega (arith, none, le_of_sub C S within)))
    go (inr more) =
        absurd (omega (
          arith,
          e,
          ones_sub C S within,
          joins_fewer J n t C (below_of_sub C S n within h) some,
          joins_fewer J n t (S - C) (omega arith) more,
          joins_sum J S J.count (omega arith),
          joins_sum J C J.count (omega arith),
          joins_sum J (S - C) J.count (omega arith),
          sum_add J.count (held J J.count S) (held J J.count C) (held J J.count (S - C))
              (parted J S C within (grow_closed J S J.count n (2 ^ r) seed (enough n S r h))),
        ))

-- Tests that pass together are equal.
same_test : (a b : Bool) → (a ≡ true → b ≡ true) → (b ≡ true → a ≡ true) → a ≡ b
same_test true b f g = sym (f refl)
same_test false true f g = g refl
same_test false false f g = refl

pub subquery_by_count : SubqueryByCount
subquery_by_count J n t S h =
    same_test (is_subquery J n S) (ltb 0 S && eqb (joins_in J S J.count + 1) (ones S))
    (λ s. cc (lt-ltb 0 S (subquery_range J n S s).0, eq-eqb (joins_in J S J.count + 1) (ones S) (joins_count J n t S s)))
    (λ s. let both = both_true (ltb 0 S) (eqb (joins_in J S J.count + 1) (ones S)) s in
    subquery_of_count J n t S h (ltb-true 0 S both.0) (eqb-true (joins_in J S J.count + 1) (ones S) both.1))
