-- What the members are of the neighbours of a relation, and of the relations above the lowest of a set.
use Prim.Native.Nat.{ℕ, zero, suc, ◌+◌, ◌-◌, ◌^◌, ◌≤◌, ◌<◌, min, max}
use native.Mathlib.Nat.{eq-or-lt_of_le, le_of_suc-le-suc}
use native.Mathlib.Decide.{dec_lt}
use native.Mathlib.Omega.{arith}
use mathlib.Core.Path.{◌≡◌, refl, sym, ap, subst, ◌∙◌}
use mathlib.Core.Bool.{Bool, true, false}
use mathlib.Core.Logic.{inl, inr}
use lib.Dec.{eqb}
use borrow.Author.Tests.{eqb-true, eqb-false}
use Rattle.relations.specs.Code.{ends_of, or_none}
use Rattle.relations.specs.declared.Joins.{Joins}
use Rattle.relations.specs.Sets.{bit, Sub, Apart, all, lowest}
use Rattle.relations.specs.Growth.{first, second}
use Rattle.relations.proofs.Bits.{bit_le, bit_or_lem, bit_add, bit_sub, bit_put, bit_none, bit_pow, bit_all, bit_high, all_below, sub_all, sub_single, le_of_sub, pow_cases}
use Rattle.relations.proofs.Counts.{lowest_in, below_lowest, lowest_below}
use Rattle.sizing.specs.Code.{other_end, neighbours_below, above, AdjacentBy}
use Rattle.sizing.proofs.Adjacent.{Linked, linked, links_of}

-- The members of the other end of a join.
other_bit : (M r c : ℕ) → bit (other_end M r) c ≡ min (bit M r) (bit M c - bit (2 ^ r) c)
other_bit M r c = go (eqb (bit M r) 1) refl
  where
    go : (d : Bool) → eqb (bit M r) 1 ≡ d → bit (or_none d (M - 2 ^ r)) c ≡ min (bit M r) (bit M c - bit (2 ^ r) c)
    go true e = let h = eqb-true (bit M r) 1 e in omega (arith, bit_sub (2 ^ r) M (sub_single M r h) c, bit_le M c)
    go false e = let h = eqb-false (bit M r) 1 e in omega (arith, bit_none c, bit_le M r)

-- Of two relations each alone holds the other where they are the same: so the ends of a join hold its two relations.
same_one : (a b : ℕ) → bit (2 ^ a) b ≡ bit (2 ^ b) a
same_one a b = elim (pow_cases a b) [
  | inl (e, one) ↦ subst (λ (x : ℕ). bit (2 ^ a) x ≡ bit (2 ^ x) a) e refl
  | inr none ↦ elim (pow_cases b a) [ inl (e, one) ↦ subst (λ (x : ℕ). bit (2 ^ x) b ≡ bit (2 ^ b) x) e refl | inr neither ↦ none ∙ sym neither ]
]

ends_bit : (J : Joins) (e x : ℕ) → bit (ends_of J e) x ≡ max (bit (2 ^ x) (first J e)) (bit (2 ^ x) (second J e))
unfolding ends_of
ends_bit J e x = omega (arith, bit_put (2 ^ first J e) (second J e) x, same_one x (first J e), same_one x (second J e))

module _ (J : Joins) (r c : ℕ) where
  -- The neighbours by the joins below m, and what join m brings.
  abbrev near : ℕ → ℕ
  near = neighbours_below (ends_of J) r

  abbrev brought : ℕ → ℕ
  brought m = other_end (ends_of J m) r

  next_bit : (m : ℕ) → bit (near (suc m)) c ≡ max (bit (near m) c) (bit (brought m) c)
  unfolding neighbours_below
  next_bit m = bit_or_lem (near m) (brought m) c

  brings : (m : ℕ) → bit (brought m) c ≡ 1 → Linked J (2 ^ r) c m
  brings m h =
      let M = ends_of J m in
      elim (pow_cases c (first J m)) [
        | inl (e, one) ↦ inl (sym e, omega (arith, other_bit M r c, bit_le M r, bit_le M c, ends_bit J m r, ap (bit (2 ^ r)) e))
        | inr none ↦ elim (pow_cases c (second J m)) [
          | inl (e, one) ↦ inr (sym e, omega (arith, other_bit M r c, bit_le M r, bit_le M c, ends_bit J m r, ap (bit (2 ^ r)) e))
          | inr neither ↦ absurd (omega (arith, other_bit M r c, ends_bit J m c))
        ]
      ]

  brought_by : (m : ℕ) → bit (2 ^ r) c ≡ 0 → Linked J (2 ^ r) c m → bit (brought m) c ≡ 1
  brought_by m out (inl (p, q)) =
      let M = ends_of J m in
      omega (arith, other_bit M r c, bit_le M r, bit_le M c, ends_bit J m r, ends_bit J m c, ap (bit (2 ^ c)) p, bit_pow c)
  brought_by m out (inr (p, q)) =
      let M = ends_of J m in
      omega (arith, other_bit M r c, bit_le M r, bit_le M c, ends_bit J m r, ends_bit J m c, ap (bit (2 ^ c)) p, bit_pow c)

  -- No relation is its own neighbour.
  pub near_other : (m : ℕ) → bit (near m) c + bit (2 ^ r) c ≤ 1
  unfolding neighbours_below
  near_other zero = omega (arith, bit_none c, bit_le (2 ^ r) c)
  near_other (suc m) = omega (arith, next_bit m, near_other m, other_bit (ends_of J m) r c, bit_le (ends_of J m) c)

  pub near_means : (m : ℕ) → bit (near m) c ≡ 1 → AdjacentBy J m (2 ^ r) c
  unfolding neighbours_below
  near_means zero h = absurd (omega (arith, bit_none c))
  near_means (suc m) h = elim (dec_lt (bit (near m) c) 1) [
    | yes l ↦ (m, omega arith, links_of J (2 ^ r) c m (brings m (omega (arith, next_bit m))))
    | no l ↦ (let w = near_means m (omega (arith, bit_le (near m) c)) in (w.0, omega (arith, w.1), w.2))
  ]

  pub near_of : bit (2 ^ r) c ≡ 0 → (m : ℕ) → AdjacentBy J m (2 ^ r) c → bit (near m) c ≡ 1
  near_of out zero (e, l, h) = absurd (omega arith)
  near_of out (suc m) (e, l, h) = elim (eq-or-lt_of_le (le_of_suc-le-suc l)) [
    | inl q ↦ (
        let b = brought_by m out (subst (λ (x : ℕ). Linked J (2 ^ r) c x) q (linked J (2 ^ r) c e h)) in
        omega (arith, next_bit m, bit_le (near m) c))
    | inr k ↦ omega (arith, next_bit m, near_of out m (e, k, h), bit_le (near (suc m)) c)
  ]

-- The relations above the lowest of a set.
module _ (n S : ℕ) (some : 0 < S) (low : S < 2 ^ n) where
  abbrev under : ℕ
  under = all (lowest n S)

  -- Those below the lowest are not in S.
  under_apart : Apart S under
  under_apart x = elim (dec_lt x (lowest n S)) [
    | yes l ↦ omega (arith, below_lowest n S x l, bit_le under x)
    | no l ↦ omega (arith, bit_high under (lowest n S) x (all_below (lowest n S)) (omega arith), bit_le S x)
  ]

  sum_bit : (x : ℕ) → bit (S + under) x ≡ bit S x + bit under x
  sum_bit = bit_add S under under_apart

  sum_within : Sub (S + under) (all n)
  sum_within x = elim (dec_lt x (lowest n S)) [
    | yes l ↦ omega (arith, sum_bit x, under_apart x, bit_all n x (omega (arith, lowest_below n S some low)))
    | no l ↦ omega (arith, sum_bit x, bit_high under (lowest n S) x (all_below (lowest n S)) (omega arith), sub_all S n low x)
  ]

  above_is : above n S ≡ all n - (S + under)
  unfolding above
  above_is = omega arith

  above_bit : (x : ℕ) → bit (above n S) x ≡ bit (all n) x - (bit S x + bit under x)
  above_bit x = ap (λ (y : ℕ). bit y x) above_is ∙ omega (arith, bit_sub (S + under) (all n) sum_within x, sum_bit x)

  -- What the code subtracts is there.
  pub above_fits : 2 ^ lowest n S - 1 ≤ all n - S
  above_fits = omega (arith, le_of_sub (S + under) (all n) sum_within)

  pub above_means : (x : ℕ) → bit (above n S) x ≡ 1 → (x < n) × (bit S x ≡ 0) × (lowest n S < x)
  above_means x h = (
    elim (dec_lt x n) [ yes l ↦ l | no l ↦ absurd (omega (arith, above_bit x, bit_high (all n) n x (all_below n) (omega arith))) ],
    omega (arith, above_bit x, bit_le (all n) x),
    elim (dec_lt x (lowest n S)) [
      | yes l ↦ absurd (omega (arith, above_bit x, bit_all (lowest n S) x l, bit_le (all n) x))
      | no l ↦ elim (dec_lt (lowest n S) x) [
        | yes m ↦ m
        | no m ↦ absurd (let e : lowest n S ≡ x = omega arith in omega (arith, above_bit x, bit_le (all n) x, ap (bit S) e, lowest_in n S some low))
      ]
    ],
  )

  pub above_of : (x : ℕ) → x < n → bit S x ≡ 0 → lowest n S < x → bit (above n S) x ≡ 1
  above_of x l out h = omega (arith, above_bit x, bit_all n x l, bit_high under (lowest n S) x (all_below (lowest n S)) (omega arith))
