-- Each relation by itself, one a turn of the loop that begins.
use Prim.Native.Nat.{ℕ, ◌+◌, ◌-◌, ◌*◌, ◌^◌, ◌≤◌, ◌<◌}
use native.Mathlib.Nat.{eq-or-lt_of_le, le_of_suc-le-suc, mul-le-mul}
use native.Mathlib.Omega.{arith}
use mathlib.Core.Path.{◌≡◌, refl, sym, ap, subst, ◌∙◌}
use mathlib.Core.List.{List}
use mathlib.Core.Logic.{inl, inr}
use lib.Bits.{bit_and}
use lib.Count.{ones}
use lib.ListN.{get_or}
use lib.Pow.{pow-lt, pow_mono, pow_pos}
use mir.Syntax.{w64}
use mir.Val.{Fits}
use Rattle.relations.specs.Code.{most_sets}
use Rattle.relations.specs.declared.Joins.{Joins}
use Rattle.relations.proofs.Counts.{ones_pow, lowest_pow}
use Rattle.sizing.specs.Worked.{size_after, worked_size}
use Rattle.sizing.specs.Code.{neighbours, above, Waiting, Lists, Long, Right, Begun, Startable}
use Rattle.sizing.proofs.Extending.{single_waiting}
use Rattle.sizing.proofs.Lists.{stored, stored_long, stored_right, still_right, each_stored}

-- One relation has its rows as its worked size.
single_size : (J : Joins) (n : ℕ) (rows divisors : List ℕ) (r : ℕ) → r < n → worked_size J n rows divisors (2 ^ r) ≡ get_or rows r 0
unfolding worked_size size_after
single_size J n rows divisors r low =
    let none : ones (2 ^ r) - 1 ≡ 0 = omega (arith, ones_pow r) in
    ap (size_after J n rows divisors (2 ^ r)) none ∙ ap (λ (x : ℕ). get_or rows x 0) (lowest_pow n r low)

-- A set below 2^n of at most nine relations has its place, and fits sixteen bits.
pub place_in : (n S : ℕ) → n ≤ 9 → S < 2 ^ n → S < most_sets
place_in n S h l = omega (arith, pow_mono {i = n} {j = 9} h)

pub place_scaled : (S k : ℕ) → S < most_sets → k ≤ 8 → Fits w64 (S * k)
place_scaled S k h l = record { fits = omega (arith, mul-le-mul {n₁ = S} {m₁ = k} {n₂ = 512} {m₂ = 8} (omega arith) l) }

pub begun_none : (J : Joins) (n : ℕ) (rows divisors : List ℕ) (old : Lists) → Long old → Begun J n rows divisors old old 0
begun_none J n rows divisors old long = record { long = long; right = λ r h. absurd (omega arith); each = λ X. inl (record { size = refl; waiting = refl }) }

module _ (J : Joins) (rows near : List ℕ) (old : Lists) (a : Startable J near old) (r : ℕ) (h : r ≤ J.count) where
  pub begun_near : get_or near r 0 ≡ neighbours J r
  begun_near = a.near_is.each r (omega arith)

  pub begun_next :
      (divisors : List ℕ) (new : Lists) (X size up : ℕ) → Begun J (J.count + 1) rows divisors old new r → X ≡ 2 ^ r → size ≡ get_or rows r 0 →
      up ≡ above (J.count + 1) X → Begun J (J.count + 1) rows divisors old (stored new X size (bit_and (get_or near r 0) up)) (r + 1)
  begun_next divisors new X size up b x e q =
      let n = J.count + 1 in
      let w = bit_and (get_or near r 0) up in
      let low : r < n = omega arith in
      let place : X < most_sets = place_in n X (omega (arith, a.few)) (rw x (pow-lt low)) in
      let waits : Waiting J n X w = rw (q, x) (single_waiting J n a.tree r (get_or near r 0) low begun_near) in
      let is : size ≡ worked_size J n rows divisors X = e ∙ sym (ap (worked_size J n rows divisors) x ∙ single_size J n rows divisors r low) in
      let here = stored_right J n rows divisors new X size w b.long place is waits in
      record {
        long = stored_long new X size w b.long;
        right = λ i l. elim (eq-or-lt_of_le (le_of_suc-le-suc {n = i} {m = r} (omega arith))) [
          | inl p ↦ subst (λ (Y : ℕ). Right J n rows divisors (stored new X size w) Y) (x ∙ ap (λ (y : ℕ). 2 ^ y) (sym p)) here
          | inr k ↦ still_right J n rows divisors new X (2 ^ i) size w here (b.right i k)
        ];
        each = each_stored (λ Y. (i : ℕ) × (i < n) × (Y ≡ 2 ^ i)) old new X size w (r, low, x) b.each;
      }

  -- The last of them.
  pub begun_last :
      (divisors : List ℕ) (new : Lists) (X size up : ℕ) → r ≡ J.count → Begun J (J.count + 1) rows divisors old new r → X ≡ 2 ^ r → size ≡ get_or rows r 0 →
      up ≡ above (J.count + 1) X → Begun J (J.count + 1) rows divisors old (stored new X size (bit_and (get_or near r 0) up)) (J.count + 1)
  begun_last divisors new X size up last b x e q =
      subst (λ (k : ℕ). Begun J (J.count + 1) rows divisors old (stored new X size (bit_and (get_or near r 0) up)) (k + 1)) last (begun_next divisors new X size up b x e q)

-- Where a relation by itself stands.
module _ (J : Joins) (near : List ℕ) (old : Lists) (a : Startable J near old) (r : ℕ) (h : r ≤ J.count) where
  pub single_in : (X : ℕ) → X ≡ 2 ^ r → (J.count + 1 ≤ 9) × ((0 < X) × (X < 2 ^ (J.count + 1)))
  single_in X e = (omega (arith, a.few), (rw e (pow_pos r), rw e (pow-lt (omega arith))))
