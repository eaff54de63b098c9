-- The lesser of two figures by the sign of their difference, as signed words: the difference fits, and the kept figure with it, where it is negative,
-- is the lesser one.
use Prim.Native.Nat.{ℕ, zero, suc, ◌+◌, ◌-◌, ◌^◌, ◌≤◌, ◌<◌, zero-le}
use native.Mathlib.Decide.{dec_lt}
use native.Mathlib.Omega.{arith}
use mathlib.Core.Path.{◌≡◌, refl, sym, ap, subst, ◌∙◌}
use mathlib.Core.Bool.{Bool, true, false, cond}
use mathlib.Core.Logic.{◌⊎◌, inl, inr}
use lib.Dec.{T, ltb}
use lib.IntN.{ℤ, pos, negsuc, nat_abs, ◌+ℤ◌, ◌-ℤ◌}
use lib.Signed.{lt_z, non_neg}
use mir.Syntax.{w64}
use mir.Val.{Fits, SFits, to_z, of_z}
use mir.ValLaws.{to_z_pos, to_z-of_z}
use borrow.Author.Tests.{lt-ltb, le-ltb, ltb-true, ltb-false}
use Rattle.board.specs.Figures.{none_mark, lesser}
use Rattle.board.proofs.LeastFigures.{lesser_new, lesser_kept, lesser_most}

-- The difference of two numbers, and a number less another.
minus_less : (n k : ℕ) → n < k → pos n -ℤ pos k ≡ negsuc (k - suc n)
minus_less n zero h = absurd (omega arith)
minus_less n (suc k) h = ap (λ (t : Bool). cond t (negsuc (suc k - suc n)) (pos (n - suc k))) (lt-ltb n (suc k) h)

minus_more : (n k : ℕ) → k ≤ n → pos n -ℤ pos k ≡ pos (n - k)
minus_more n zero h = let e : n + 0 ≡ n - 0 = omega arith in ap pos e
minus_more n (suc k) h = ap (λ (t : Bool). cond t (negsuc (suc k - suc n)) (pos (n - suc k))) (le-ltb n (suc k) h)

plus_less : (k m : ℕ) → m < k → pos k +ℤ negsuc m ≡ pos (k - suc m)
plus_less k m h = ap (λ (t : Bool). cond t (negsuc (suc m - suc k)) (pos (k - suc m))) (le-ltb k (suc m) h)

-- The difference of two words.
abbrev pub minus : ℕ → ℕ → ℤ
minus n k = to_z w64 n -ℤ to_z w64 k

abbrev pub negative : ℤ → Bool
negative z = lt_z (to_z w64 (of_z w64 z)) (to_z w64 0)

module _ (n k : ℕ) (small : n < 2 ^ 62) (low : k ≤ none_mark) where
  word_kept : to_z w64 k ≡ pos k
  word_kept = to_z_pos w64 k (omega arith)

  minus_is : minus n k ≡ pos n -ℤ pos k
  minus_is = λ i. to_z_pos w64 n (omega arith) i -ℤ word_kept i

  pub minus_fits : SFits w64 (minus n k)
  minus_fits = elim (dec_lt n k) [
    | yes h ↦ subst (SFits w64) (sym (minus_is ∙ minus_less n k h)) (record { sfits = omega arith })
    | no h ↦ subst (SFits w64) (sym (minus_is ∙ minus_more n k (omega arith))) (record { sfits = omega arith })
  ]

  sign : negative (minus n k) ≡ ltb n k
  sign = elim (dec_lt n k) [
    | yes h ↦ ap (λ (z : ℤ). lt_z z (pos 0)) (to_z-of_z w64 (minus n k) minus_fits ∙ minus_is ∙ minus_less n k h) ∙ sym (lt-ltb n k h)
    | no h ↦ ap (λ (z : ℤ). lt_z z (pos 0)) (to_z-of_z w64 (minus n k) minus_fits ∙ minus_is ∙ minus_more n k (omega arith)) ∙ le-ltb (n - k) 0 zero-le
        ∙ sym (le-ltb n k (omega arith))
  ]

  -- The kept figure with the difference where that is negative, else with nothing.
  module _ (less : ℕ) (came : ((negative (minus n k) ≡ true) × (less ≡ of_z w64 (minus n k))) ⊎ ((negative (minus n k) ≡ false) × (less ≡ 0))) where
    abbrev sum : ℤ
    sum = to_z w64 k +ℤ to_z w64 less

    sum_is : sum ≡ pos (lesser n k)
    sum_is = go came
      where
        go : ((negative (minus n k) ≡ true) × (less ≡ of_z w64 (minus n k))) ⊎ ((negative (minus n k) ≡ false) × (less ≡ 0)) → sum ≡ pos (lesser n k)
        go (inl (t, e)) =
            let h : n < k = ltb-true n k (sym sign ∙ t) in
            let d : to_z w64 less ≡ negsuc (k - suc n) = ap (to_z w64) e ∙ to_z-of_z w64 (minus n k) minus_fits ∙ minus_is ∙ minus_less n k h in
            let back : k - suc (k - suc n) ≡ n = omega arith in
            (λ i. word_kept i +ℤ d i) ∙ plus_less k (k - suc n) (omega arith) ∙ ap pos (back ∙ lesser_new n k h)
        go (inr (t, e)) =
            let h : k ≤ n = ltb-false n k (sym sign ∙ t) in
            let d : to_z w64 less ≡ pos 0 = ap (to_z w64) e in
            let same : k + 0 ≡ k = omega arith in
            (λ i. word_kept i +ℤ d i) ∙ ap pos (same ∙ lesser_kept n k h)

    most : lesser n k ≤ none_mark
    most = lesser_most n k none_mark low

    read_back : to_z w64 (of_z w64 sum) ≡ pos (lesser n k)
    read_back = ap (λ (z : ℤ). to_z w64 (of_z w64 z)) sum_is ∙ to_z_pos w64 (lesser n k) (omega (arith, most))

    pub sum_fits : SFits w64 sum
    sum_fits = subst (SFits w64) (sym sum_is) (record { sfits = omega (arith, most) })

    pub sum_cast : T (non_neg (to_z w64 (of_z w64 sum))) × Fits w64 (nat_abs (to_z w64 (of_z w64 sum)))
    sum_cast = subst (λ (z : ℤ). T (non_neg z) × Fits w64 (nat_abs z)) (sym read_back) (tt, record { fits = omega (arith, most) })

    pub sum_lesser : (nat_abs (to_z w64 (of_z w64 sum)) ≡ lesser n k) × (nat_abs (to_z w64 (of_z w64 sum)) ≤ none_mark)
    sum_lesser = subst (λ (z : ℤ). (nat_abs z ≡ lesser n k) × (nat_abs z ≤ none_mark)) (sym read_back) (refl, most)
