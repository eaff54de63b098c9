-- A walk over the members of a set from the lowest on: what is left are the members from a place on, and each turn takes the lowest of them away.
use Prim.Native.Nat.{ℕ, ◌+◌, ◌-◌, ◌^◌, ◌≤◌, ◌<◌}
use native.Mathlib.Omega.{arith}
use native.Mathlib.Decide.{dec_lt}
use mathlib.Core.Path.{◌≡◌, sym, ap, ◌∙◌}
use lib.Pow.{pow_pos}
use Rattle.relations.specs.Sets.{bit, lowest}
use Rattle.relations.proofs.Bits.{bit_none, bit_sub, bit_pow, bit_pow_other, sub_single}
use Rattle.relations.proofs.Counts.{lowest_in, lowest_within, below_lowest}

-- The members of left are those of whole from at on.
pub record From (whole left at : ℕ) : Type 0 where
  pub gone : (i : ℕ) → i < at → bit left i ≡ 0
  pub same : (i : ℕ) → at ≤ i → bit left i ≡ bit whole i

-- At first all are left.
pub from_first : (whole left : ℕ) → left ≡ whole → From whole left 0
from_first whole left e = record { gone = λ i h. absurd (omega arith); same = λ i h. ap (λ (x : ℕ). bit x i) e }

module _ (whole left at : ℕ) (w : From whole left at) where
  -- None is left.
  pub none_from : left ≡ 0 → (i : ℕ) → at ≤ i → bit whole i ≡ 0
  none_from none i h = sym (w.same i h) ∙ ap (λ (x : ℕ). bit x i) none ∙ bit_none i

  -- The lowest that is left, and the set of it alone.
  module _ (some : left ≡ 0 → ⊥) (few : left < 2 ^ 64) where
    pub lowest_left : bit left (lowest 64 left) ≡ 1
    lowest_left = lowest_in 64 left (omega arith) few

    pub lowest_past : at ≤ lowest 64 left
    lowest_past = elim (dec_lt (lowest 64 left) at) [
      | yes h ↦ (let none : bit left (lowest 64 left) ≡ 0 = w.gone (lowest 64 left) h in omega (arith, lowest_left))
      | no h ↦ omega arith
    ]

    pub lowest_whole : bit whole (lowest 64 left) ≡ 1
    lowest_whole = sym (w.same (lowest 64 left) lowest_past) ∙ lowest_left

    -- None was passed over.
    pub none_between : (i : ℕ) → at ≤ i → i < lowest 64 left → bit whole i ≡ 0
    none_between i low h = sym (w.same i low) ∙ below_lowest 64 left i h

    pub one_within : (one : ℕ) → one ≡ 2 ^ lowest 64 left → one ≤ left
    one_within one is = omega (arith, lowest_within 64 left (omega arith) few)

    pub one_less : (one : ℕ) → one ≡ 2 ^ lowest 64 left → left - one < left
    one_less one is = omega (arith, pow_pos (lowest 64 left))

    -- The next turn.
    pub from_next : (one : ℕ) → one ≡ 2 ^ lowest 64 left → From whole (left - one) (lowest 64 left + 1)
    from_next one is = rw is (record {
      gone = λ i h. less i ∙ taken i h;
      same = λ i h. less i ∙ omega (arith, bit_pow_other (lowest 64 left) i (λ q. omega arith), w.same i (omega (arith, lowest_past)));
    })
      where
        less : (i : ℕ) → bit (left - 2 ^ lowest 64 left) i ≡ bit left i - bit (2 ^ lowest 64 left) i
        less i = bit_sub (2 ^ lowest 64 left) left (sub_single left (lowest 64 left) lowest_left) i

        taken : (i : ℕ) → i < lowest 64 left + 1 → bit left i - bit (2 ^ lowest 64 left) i ≡ 0
        taken i h = elim (dec_lt i (lowest 64 left)) [
          | yes k ↦ omega (arith, below_lowest 64 left i k)
          | no k ↦ (let q : i ≡ lowest 64 left = omega arith in rw q (omega (arith, lowest_left, bit_pow (lowest 64 left))))
        ]
