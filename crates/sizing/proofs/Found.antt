-- The lowest number that passes a test: nothing below it does, and it does where it is in range.
use Prim.Native.Nat.{ℕ, zero, suc, ◌+◌, ◌≤◌, ◌<◌}
use native.Mathlib.Nat.{eq-or-lt_of_le}
use native.Mathlib.Decide.{dec_lt}
use native.Mathlib.Omega.{arith}
use mathlib.Core.Path.{◌≡◌, sym, ap, ◌∙◌}
use mathlib.Core.Bool.{Bool, true, false}
use mathlib.Core.Logic.{inl, inr}
use Rattle.relations.proofs.Leads.{never_both}
use Rattle.query.proofs.Choice.{pick_all}
use Rattle.sizing.specs.Worked.{lowest_where}

module _ (test : ℕ → Bool) where
  pub where_found : (k i : ℕ) → lowest_where test k i < i + k → test (lowest_where test k i) ≡ true
  unfolding lowest_where
  where_found zero i h = absurd (omega arith)
  where_found (suc k) i h =
      pick_all (λ x. x < i + suc k → test x ≡ true) (test i) i (lowest_where test k (suc i)) (λ e l. e) (λ e l. where_found k (suc i) (omega arith)) h

  pub where_before : (k i j : ℕ) → i ≤ j → j < lowest_where test k i → test j ≡ false
  unfolding lowest_where
  where_before zero i j a b = absurd (omega arith)
  where_before (suc k) i j a b =
      pick_all (λ x. j < x → test j ≡ false) (test i) i (lowest_where test k (suc i)) (λ e l. absurd (omega arith))
      (λ e l. elim (eq-or-lt_of_le a) [ inl q ↦ ap test (sym q) ∙ e | inr q ↦ where_before k (suc i) j q l ]) b

  -- Below the end it passes, and nothing before it does: it is that number.
  pub where_is : (k j : ℕ) → j < k → test j ≡ true → ((x : ℕ) → x < j → test x ≡ true → ⊥) → lowest_where test k 0 ≡ j
  where_is k j h here none =
      let found = lowest_where test k 0 in
      elim (dec_lt found j) [
        | yes l ↦ absurd (none found l (where_found k 0 (omega arith)))
        | no l ↦ elim (dec_lt j found) [ yes m ↦ absurd (never_both (test j) here (where_before k 0 j (omega arith) m)) | no m ↦ omega arith ]
      ]
