-- How many members a set has: the counts of disjoint sets add up, so a set with as many members as one that holds it is that set.
-- With it, the lowest member of a set, which is the only one of a set of one.
use Prim.Native.Nat.{ℕ, zero, suc, ◌+◌, ◌-◌, ◌/◌, ◌%◌, ◌^◌, ◌≤◌, ◌<◌}
use mathlib.Core.Path.{◌≡◌, refl, sym, ap, ◌∙◌}
use mathlib.Core.Logic.{inl, inr}
use native.Mathlib.Nat.{zero-add, pow-suc, eq-zero-or-pos, le_of_suc-le-suc, le_antisymm}
use native.Mathlib.Decide.{dec_lt}
use native.Mathlib.Omega.{arith}
use lib.Arith.{bin_ind}
use lib.Bits.{bit_and, and_step, and_self}
use lib.Pow.{pow-lt, pow_pos}
use lib.Count.{ones, ones_step, count_trailing_zeros, under}
use Rattle.relations.specs.Sets.{bit, Sub, Apart, put, lowest}
use Rattle.relations.proofs.Bits.{bit_zero, bit_suc, half_pow, le_of_sub, sub_apart, sub_whole, sub_single, single_apart, bit_range, put_new, pow_cases}
use Rattle.relations.proofs.Sums.{sum, sum_front, sum_same}

pub ones_zero : ones 0 ≡ 0
unfolding ones
ones_zero = refl

pub ones_add : (A B : ℕ) → Apart A B → ones (A + B) ≡ ones A + ones B
ones_add =
    bin_ind (λ (A : ℕ). (B : ℕ) → Apart A B → ones (A + B) ≡ ones A + ones B) (λ B p. ap ones (zero-add B) ∙ omega (arith, ones_zero))
    (λ A ih B p.
    let halves : (A + B) / 2 ≡ A / 2 + B / 2 = omega (arith, p 0, bit_zero A, bit_zero B) in
    let rest : ones ((A + B) / 2) ≡ ones (A / 2) + ones (B / 2) =
    ap ones halves ∙ ih (B / 2) (λ r. omega (arith, p (suc r), bit_suc A r, bit_suc B r)) in
    omega (arith, p 0, bit_zero A, bit_zero B, ones_step (A + B), ones_step A, ones_step B))

pub ones_sub : (A B : ℕ) → Sub A B → ones B ≡ ones A + ones (B - A)
ones_sub A B s = ap ones (sym (sub_whole A B s)) ∙ ones_add A (B - A) (sub_apart A B s)

pub ones_mono : (A B : ℕ) → Sub A B → ones A ≤ ones B
ones_mono A B s = omega (arith, ones_sub A B s)

pub ones_pos : (S : ℕ) → 0 < S → 0 < ones S
ones_pos =
    bin_ind (λ (S : ℕ). 0 < S → 0 < ones S) (λ h. omega arith) (λ S ih h.
    elim (eq-zero-or-pos (S / 2)) [ inl e ↦ omega (arith, ones_step S) | inr p ↦ omega (arith, ones_step S, ih p) ])

-- A set of one member is not empty.
pub one_some : (S : ℕ) → ones S ≡ 1 → 0 < S
one_some S h = elim (eq-zero-or-pos S) [ inl e ↦ omega (arith, ap ones e, ones_zero) | inr p ↦ p ]

pub ones_none : (S : ℕ) → ones S ≡ 0 → S ≡ 0
ones_none S h = elim (eq-zero-or-pos S) [ inl e ↦ e | inr p ↦ omega (arith, ones_pos S p) ]

-- A part with as many members is the whole.
pub sub_full : (A B : ℕ) → Sub A B → ones B ≤ ones A → A ≡ B
sub_full A B s h = omega (arith, sub_whole A B s, ones_none (B - A) (omega (arith, ones_sub A B s)))

pub ones_pow : (k : ℕ) → ones (2 ^ k) ≡ 1
ones_pow zero = omega (arith, ones_step 1, ones_zero)
ones_pow (suc k) = ones_step (2 ^ suc k) ∙ omega (arith, pow-suc 2 k, ap ones (half_pow k), ones_pow k)

-- The members of a set are as many as it has ones.
pub ones_sum : (m S : ℕ) → S < 2 ^ m → ones S ≡ sum m (bit S)
unfolding sum
ones_sum zero S h = let none : S ≡ 0 = omega arith in ap ones none ∙ ones_zero
ones_sum (suc m) S h =
    omega (arith, ones_step S, ones_sum m (S / 2) (omega (arith, pow-suc 2 m)), sum_front m (bit S), bit_zero S, sum_same m (λ i. bit S (suc i)) (bit (S / 2)) (λ i l. bit_suc S i))

-- One more member.
pub ones_more : (S k : ℕ) → bit S k ≡ 0 → ones (S + 2 ^ k) ≡ ones S + 1
ones_more S k h = omega (arith, ones_add S (2 ^ k) (single_apart S k h), ones_pow k)

pub ones_put : (S k : ℕ) → bit S k ≡ 0 → ones (put S k) ≡ ones S + 1
ones_put S k h = ap ones (put_new S k h) ∙ ones_more S k h

-- The lowest member of a set that is not empty is a member.
pub lowest_in : (n S : ℕ) → 0 < S → S < 2 ^ n → bit S (lowest n S) ≡ 1
unfolding count_trailing_zeros
lowest_in zero S p h = omega arith
lowest_in (suc n) S p h = go (S % 2) refl (λ q. lowest_in n (S / 2) q (omega (arith, pow-suc 2 n)))
  where
    go : (d : ℕ) → S % 2 ≡ d → (0 < S / 2 → bit (S / 2) (lowest n (S / 2)) ≡ 1) → bit S (under d (lowest n (S / 2))) ≡ 1
    go zero e above = bit_suc S (lowest n (S / 2)) ∙ above (omega arith)
    go (suc d) e above = omega (arith, bit_zero S)

-- No member is below the lowest, so a member that no other is below is the lowest.
pub below_lowest : (n S i : ℕ) → i < lowest n S → bit S i ≡ 0
unfolding count_trailing_zeros
below_lowest zero S i h = absurd (omega arith)
below_lowest (suc n) S i h = go i (S % 2) refl (below_lowest n (S / 2)) h
  where
    go : (i d : ℕ) → S % 2 ≡ d → ((j : ℕ) → j < lowest n (S / 2) → bit (S / 2) j ≡ 0) → i < under d (lowest n (S / 2)) → bit S i ≡ 0
    go zero zero e above l = bit_zero S ∙ e
    go (suc i) zero e above l = bit_suc S i ∙ above i (omega arith)
    go i (suc d) e above l = absurd (omega arith)

pub lowest_least : (n S r : ℕ) → bit S r ≡ 1 → lowest n S ≤ r
lowest_least n S r h = elim (dec_lt r (lowest n S)) [ yes l ↦ absurd (omega (arith, below_lowest n S r l)) | no l ↦ omega arith ]

pub lowest_is : (n S r : ℕ) → S < 2 ^ n → bit S r ≡ 1 → ((x : ℕ) → bit S x ≡ 1 → r ≤ x) → lowest n S ≡ r
lowest_is n S r h here least =
    le_antisymm (lowest_least n S r here) (least (lowest n S) (lowest_in n S (omega (arith, le_of_sub (2 ^ r) S (sub_single S r here), pow_pos r)) h))

pub lowest_below : (n S : ℕ) → 0 < S → S < 2 ^ n → lowest n S < n
lowest_below n S p h = bit_range S n (lowest n S) h (lowest_in n S p h)

pub lowest_pow : (n r : ℕ) → r < n → lowest n (2 ^ r) ≡ r
lowest_pow n r l =
    elim (pow_cases r (lowest n (2 ^ r))) [ inl (e, one) ↦ sym e | inr none ↦ omega (arith, lowest_in n (2 ^ r) (pow_pos r) (pow-lt l)) ]

pub single_of_ones : (n S : ℕ) → S < 2 ^ n → ones S ≡ 1 → S ≡ 2 ^ lowest n S
single_of_ones n S h e =
    sym (sub_full (2 ^ lowest n S) S (sub_single S (lowest n S) (lowest_in n S (one_some S e) h)) (omega (arith, e, ones_pow (lowest n S))))

-- A member of a set of one is its lowest.
pub lowest_alone : (n S r : ℕ) → S < 2 ^ n → ones S ≡ 1 → bit S r ≡ 1 → lowest n S ≡ r
lowest_alone n S r h e one =
    elim (pow_cases (lowest n S) r) [ inl (same, here) ↦ same | inr none ↦ omega (arith, none, ap (λ (x : ℕ). bit x r) (single_of_ones n S h e)) ]

pub lowest_within : (n S : ℕ) → 0 < S → S < 2 ^ n → 2 ^ lowest n S ≤ S
lowest_within n S p h = le_of_sub (2 ^ lowest n S) S (sub_single S (lowest n S) (lowest_in n S p h))

-- A number and the one before it share all digits but the lowest that is set: masked by it, a set loses its lowest member.
pub lowest_off : (n S : ℕ) → 0 < S → S < 2 ^ n → bit_and S (S - 1) ≡ S - 2 ^ lowest n S
unfolding count_trailing_zeros
lowest_off zero S p h = absurd (omega arith)
lowest_off (suc n) S p h = go (S % 2) refl (λ q. lowest_off n (S / 2) q (omega (arith, pow-suc 2 n)))
  where
    go : (d : ℕ) → S % 2 ≡ d → (0 < S / 2 → bit_and (S / 2) (S / 2 - 1) ≡ S / 2 - 2 ^ lowest n (S / 2)) → bit_and S (S - 1) ≡ S - 2 ^ under d (lowest n (S / 2))
    go zero e above =
        let half : (S - 1) / 2 ≡ S / 2 - 1 = omega arith in
        omega (arith, and_step S (S - 1), ap (bit_and (S / 2)) half, above (omega arith), pow-suc 2 (lowest n (S / 2)))
    go (suc d) e above = let half : (S - 1) / 2 ≡ S / 2 = omega arith in omega (arith, and_step S (S - 1), ap (bit_and (S / 2)) half, and_self (S / 2))

-- The lowest member of a set below 2 ^ n is the same for every greater limit.
pub lowest_same : (n m S : ℕ) → 0 < S → S < 2 ^ n → n ≤ m → count_trailing_zeros n S ≡ count_trailing_zeros m S
unfolding count_trailing_zeros
lowest_same zero m S p h l = absurd (omega arith)
lowest_same (suc n) zero S p h l = absurd (omega arith)
lowest_same (suc n) (suc m) S p h l =
    go (S % 2) refl (λ z. lowest_same n m (S / 2) (omega arith) (omega arith) (le_of_suc-le-suc l))
  where
    go : (d : ℕ) → S % 2 ≡ d → (S % 2 ≡ 0 → count_trailing_zeros n (S / 2) ≡ count_trailing_zeros m (S / 2)) →
        under d (count_trailing_zeros n (S / 2)) ≡ under d (count_trailing_zeros m (S / 2))
    go zero e f = ap suc (f e)
    go (suc d) e f = refl
