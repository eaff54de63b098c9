-- The laws of membership: a set is known by its members, and what the members of an intersection, a union, a disjoint sum, a difference,
-- a single relation and all relations are. Each is true digit by digit, by halving.
use Prim.Native.Nat.{ℕ, zero, suc, ◌+◌, ◌-◌, ◌/◌, ◌%◌, ◌^◌, ◌≤◌, ◌<◌, min, max, zero-le}
use mathlib.Core.Path.{◌≡◌, refl, sym, ap, ◌∙◌}
use mathlib.Core.Logic.{◌⊎◌, inl, inr}
use native.Mathlib.Nat.{mod-lt, div-one, div_self, zero-div, div-eq_of_lt, zero-lt-suc, lt_of_lt_of_le, le_antisymm, pow-suc}
use native.Mathlib.Numerals.{one-add}
use native.Mathlib.Decide.{dec_lt, ℕ_discrete}
use native.Mathlib.Omega.{arith}
use lib.Arith.{bin_ind}
use lib.Pow.{shr-shr, pow_pos, pow_mono}
use lib.Bits.{bit_and, bit_or, and_step, or_step, and_shr, or_shr, or_disjoint}
use Rattle.relations.specs.Sets.{bit, Sub, Apart, all, put}

pub bit_le : (S r : ℕ) → bit S r ≤ 1
unfolding bit
bit_le S r = omega (arith, mod-lt (S / 2 ^ r) (zero-lt-suc 1))

-- The lowest digit, and the digits above it.
pub bit_zero : (S : ℕ) → bit S 0 ≡ S % 2
unfolding bit
bit_zero S = ap (λ (x : ℕ). x % 2) (div-one S)

pub bit_suc : (S r : ℕ) → bit S (suc r) ≡ bit (S / 2) r
unfolding bit
bit_suc S r = ap (λ (x : ℕ). x % 2) (sym (shr-shr S 1 r ∙ ap (λ (x : ℕ). S / 2 ^ x) (one-add r)))

pub bit_none : (r : ℕ) → bit 0 r ≡ 0
unfolding bit
bit_none r = ap (λ (x : ℕ). x % 2) (zero-div (2 ^ r))

-- A set of some of the members is no greater a number, so sets with the same members are equal.
pub le_of_sub : (A B : ℕ) → Sub A B → A ≤ B
le_of_sub =
    bin_ind (λ (A : ℕ). (B : ℕ) → Sub A B → A ≤ B) (λ B s. zero-le)
    (λ A ih B s.
    let halves : A / 2 ≤ B / 2 = ih (B / 2) (λ r. omega (arith, s (suc r), bit_suc A r, bit_suc B r)) in
    omega (arith, s 0, bit_zero A, bit_zero B))

pub sub_antisym : (A B : ℕ) → Sub A B → Sub B A → A ≡ B
sub_antisym A B s t = le_antisymm (le_of_sub A B s) (le_of_sub B A t)

pub ext : (A B : ℕ) → ((r : ℕ) → bit A r ≡ bit B r) → A ≡ B
ext A B e = sub_antisym A B (λ r. omega (arith, e r)) (λ r. omega (arith, e r))

-- Intersection, union, disjoint sum, difference.
pub bit_and_lem : (A B r : ℕ) → bit (bit_and A B) r ≡ min (bit A r) (bit B r)
unfolding bit
bit_and_lem A B r = ap (λ (x : ℕ). x % 2) (and_shr A B r) ∙ omega (arith, and_step (A / 2 ^ r) (B / 2 ^ r))

pub bit_or_lem : (A B r : ℕ) → bit (bit_or A B) r ≡ max (bit A r) (bit B r)
unfolding bit
bit_or_lem A B r = ap (λ (x : ℕ). x % 2) (or_shr A B r) ∙ omega (arith, or_step (A / 2 ^ r) (B / 2 ^ r))

pub and_apart : (A B : ℕ) → Apart A B → bit_and A B ≡ 0
and_apart A B p = ext (bit_and A B) 0 (λ r. omega (arith, bit_and_lem A B r, bit_none r, p r))

pub bit_add : (A B : ℕ) → Apart A B → (r : ℕ) → bit (A + B) r ≡ bit A r + bit B r
bit_add A B p r =
    let sum : bit (bit_or A B) r ≡ bit (A + B) r = ap (λ (x : ℕ). bit x r) (or_disjoint A B (and_apart A B p)) in
    omega (arith, bit_or_lem A B r, p r)

pub and_of_sub : (A B : ℕ) → Sub A B → bit_and B A ≡ A
and_of_sub A B s = ext (bit_and B A) A (λ r. omega (arith, bit_and_lem B A r, s r))

pub bit_sub : (A B : ℕ) → Sub A B → (r : ℕ) → bit (B - A) r ≡ bit B r - bit A r
bit_sub A B s zero = omega (arith, bit_zero (B - A), bit_zero A, bit_zero B, s 0, le_of_sub A B s)
bit_sub A B s (suc r) = bit_suc (B - A) r ∙ ap (λ (x : ℕ). bit x r) halves ∙ bit_sub (A / 2) (B / 2) less r ∙ omega (arith, bit_suc A r, bit_suc B r)
  where
    less : Sub (A / 2) (B / 2)
    less i = omega (arith, s (suc i), bit_suc A i, bit_suc B i)

    halves : (B - A) / 2 ≡ B / 2 - A / 2
    halves = omega (arith, le_of_sub A B s, s 0, bit_zero A, bit_zero B, le_of_sub (A / 2) (B / 2) less)

pub bit_less : (A B r : ℕ) → bit (A - bit_and A B) r ≡ bit A r - bit B r
bit_less A B r =
    bit_sub (bit_and A B) A (λ i. omega (arith, bit_and_lem A B i)) r
    ∙ omega (arith, bit_and_lem A B r, bit_le A r, bit_le B r)

-- What is left of B without A shares nothing with A, and with A it makes B.
pub sub_apart : (A B : ℕ) → Sub A B → Apart A (B - A)
sub_apart A B s r = omega (arith, bit_sub A B s r, s r, bit_le B r)

pub sub_whole : (A B : ℕ) → Sub A B → A + (B - A) ≡ B
sub_whole A B s = omega (arith, le_of_sub A B s)

-- One relation.
pub bit_pow : (k : ℕ) → bit (2 ^ k) k ≡ 1
unfolding bit
bit_pow k = ap (λ (x : ℕ). x % 2) (div_self (pow_pos k))

pub half_pow : (k : ℕ) → 2 ^ suc k / 2 ≡ 2 ^ k
half_pow k = omega (arith, pow-suc 2 k)

pub bit_pow_other : (k r : ℕ) → (k ≡ r → ⊥) → bit (2 ^ k) r ≡ 0
bit_pow_other zero zero d = absurd (d refl)
bit_pow_other zero (suc r) d = bit_suc 1 r ∙ bit_none r
bit_pow_other (suc k) zero d = omega (arith, bit_zero (2 ^ suc k), pow-suc 2 k)
bit_pow_other (suc k) (suc r) d =
    bit_suc (2 ^ suc k) r ∙ ap (λ (x : ℕ). bit x r) (half_pow k) ∙ bit_pow_other k r (λ e. d (ap suc e))

-- What the members of a single relation are, by cases.
pub pow_cases : (k r : ℕ) → ((k ≡ r) × (bit (2 ^ k) r ≡ 1)) ⊎ (bit (2 ^ k) r ≡ 0)
pow_cases k r = elim (ℕ_discrete k r) [ yes e ↦ inl (e, ap (λ (x : ℕ). bit (2 ^ k) x) (sym e) ∙ bit_pow k) | no d ↦ inr (bit_pow_other k r d) ]

pub sub_single : (A k : ℕ) → bit A k ≡ 1 → Sub (2 ^ k) A
sub_single A k h r = go (pow_cases k r)
  where
    go : ((k ≡ r) × (bit (2 ^ k) r ≡ 1)) ⊎ (bit (2 ^ k) r ≡ 0) → bit (2 ^ k) r ≤ bit A r
    go (inl (e, one)) = omega (arith, ap (λ (x : ℕ). bit A x) e)
    go (inr none) = omega arith

pub single_apart : (A k : ℕ) → bit A k ≡ 0 → Apart A (2 ^ k)
single_apart A k h r = go (pow_cases k r)
  where
    go : ((k ≡ r) × (bit (2 ^ k) r ≡ 1)) ⊎ (bit (2 ^ k) r ≡ 0) → bit A r + bit (2 ^ k) r ≤ 1
    go (inl (e, one)) = omega (arith, ap (λ (x : ℕ). bit A x) e)
    go (inr none) = omega (arith, bit_le A r)

-- One relation more.
pub bit_more : (A k : ℕ) → bit A k ≡ 0 → (r : ℕ) → bit (A + 2 ^ k) r ≡ bit A r + bit (2 ^ k) r
bit_more A k h = bit_add A (2 ^ k) (single_apart A k h)

pub sub_more : (A k : ℕ) → bit A k ≡ 0 → Sub A (A + 2 ^ k)
sub_more A k h r = omega (arith, bit_more A k h r)

pub more_cases : (A k : ℕ) → bit A k ≡ 0 → (r : ℕ) → bit (A + 2 ^ k) r ≡ 1 → (bit A r ≡ 1) ⊎ (k ≡ r)
more_cases A k h r one = elim (pow_cases k r) [ inl (e, here) ↦ inr e | inr none ↦ inl (omega (arith, bit_more A k h r)) ]

-- Sets below 2^n have their members below n, and the set of all holds each.
pub bit_high : (S n r : ℕ) → S < 2 ^ n → n ≤ r → bit S r ≡ 0
unfolding bit
bit_high S n r h l = ap (λ (x : ℕ). x % 2) (div-eq_of_lt (lt_of_lt_of_le h (pow_mono l)))

pub bit_range : (S n r : ℕ) → S < 2 ^ n → bit S r ≡ 1 → r < n
bit_range S n r h one = elim (dec_lt r n) [ yes l ↦ l | no l ↦ (let none : bit S r ≡ 0 = bit_high S n r h (omega arith) in omega arith) ]

pub bit_all : (n r : ℕ) → r < n → bit (all n) r ≡ 1
bit_all zero r l = omega arith
bit_all (suc n) zero l = omega (arith, bit_zero (all (suc n)), pow-suc 2 n, pow_pos n)
bit_all (suc n) (suc r) l =
    bit_suc (all (suc n)) r ∙ ap (λ (x : ℕ). bit x r) halves ∙ bit_all n r (omega arith)
  where
    halves : all (suc n) / 2 ≡ all n
    halves = omega (arith, pow-suc 2 n, pow_pos n)

pub sub_all : (S n : ℕ) → S < 2 ^ n → Sub S (all n)
sub_all S n h r =
    elim (dec_lt r n) [ yes l ↦ omega (arith, bit_le S r, bit_all n r l) | no l ↦ (let none : bit S r ≡ 0 = bit_high S n r h (omega arith) in omega arith) ]

pub below_of_sub : (A B n : ℕ) → Sub A B → B < 2 ^ n → A < 2 ^ n
below_of_sub A B n s h = omega (arith, le_of_sub A B s)

pub all_below : (n : ℕ) → all n < 2 ^ n
all_below n = omega (arith, pow_pos n)

-- One more relation.
pub bit_put : (S k r : ℕ) → bit (put S k) r ≡ max (bit S r) (bit (2 ^ k) r)
unfolding put
bit_put S k r = bit_or_lem S (2 ^ k) r

pub put_new : (S k : ℕ) → bit S k ≡ 0 → put S k ≡ S + 2 ^ k
unfolding put
put_new S k h = or_disjoint S (2 ^ k) (and_apart S (2 ^ k) (single_apart S k h))

pub put_old : (S k : ℕ) → bit S k ≡ 1 → put S k ≡ S
put_old S k h = ext (put S k) S (λ r. omega (arith, bit_put S k r, sub_single S k h r))
