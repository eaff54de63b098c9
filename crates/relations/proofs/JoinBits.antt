-- The joins in a set of relations, counted and as a set of joins, one join more at a time: a join has its bit there exactly where it lies in the set.
use Prim.Native.Nat.{ℕ, zero, suc, ◌+◌, ◌^◌, ◌≤◌, ◌<◌}
use mathlib.Core.Path.{◌≡◌, refl, sym, ap, subst, ◌∙◌}
use mathlib.Core.Bool.{Bool, true, false}
use mathlib.Core.Logic.{◌⊎◌, inl, inr}
use native.Mathlib.Nat.{pow-suc, eq-or-lt_of_le, le_of_suc-le-suc}
use native.Mathlib.Decide.{dec_lt}
use native.Mathlib.Omega.{arith}
use Rattle.relations.specs.declared.Joins.{Joins}
use Rattle.relations.specs.Sets.{bit}
use Rattle.relations.specs.Growth.{inside}
use Rattle.relations.specs.Trees.{joins_in, join_bits}
use Rattle.relations.specs.Code.{or_none}
use Rattle.relations.proofs.Bits.{bit_add, bit_high, bit_pow, bit_pow_other, single_apart}

-- One join more: it is counted and its bit is set where it lies in the set.
pub joins_next : (J : Joins) (S m : ℕ) → joins_in J S (suc m) ≡ joins_in J S m + or_none (inside J S m) 1
unfolding joins_in
joins_next J S m = go (inside J S m)
  where
    go : (d : Bool) → ◌≡◌ {A = ℕ} (elim d [ true ↦ suc (joins_in J S m) | false ↦ joins_in J S m ]) (joins_in J S m + or_none d 1)
    go true = omega arith
    go false = omega arith

pub bits_next : (J : Joins) (S m : ℕ) → join_bits J S (suc m) ≡ join_bits J S m + or_none (inside J S m) (2 ^ m)
unfolding join_bits
bits_next J S m = go (inside J S m)
  where
    go : (d : Bool) → ◌≡◌ {A = ℕ} (elim d [ true ↦ join_bits J S m + 2 ^ m | false ↦ join_bits J S m ]) (join_bits J S m + or_none d (2 ^ m))
    go true = refl
    go false = omega arith

pub or_none_le : (d : Bool) (n : ℕ) → or_none d n ≤ n
or_none_le true n = omega arith
or_none_le false n = omega arith

pub or_none_some : (d : Bool) (n : ℕ) → 0 < or_none d n → (d ≡ true) × (0 < n)
or_none_some true n p = (refl, p)
or_none_some false n p = absurd (omega arith)

pub joins_most : (J : Joins) (S m : ℕ) → joins_in J S m ≤ m
unfolding joins_in
joins_most J S zero = omega arith
joins_most J S (suc m) = omega (arith, joins_next J S m, joins_most J S m, or_none_le (inside J S m) 1)

pub bits_below : (J : Joins) (S m : ℕ) → join_bits J S m < 2 ^ m
unfolding join_bits
bits_below J S zero = omega arith
bits_below J S (suc m) = omega (arith, bits_next J S m, bits_below J S m, or_none_le (inside J S m) (2 ^ m), pow-suc 2 m)

-- The joins as a set: join e is in it exactly where it lies in S, and from m on there is none.
pub bits_high : (J : Joins) (S m e : ℕ) → m ≤ e → bit (join_bits J S m) e ≡ 0
bits_high J S m e h = bit_high (join_bits J S m) m e (bits_below J S m) h

bits_plus : (B m e : ℕ) (d : Bool) → B < 2 ^ m → bit (B + or_none d (2 ^ m)) e ≡ bit B e + or_none d (bit (2 ^ m) e)
bits_plus B m e true h = bit_add B (2 ^ m) (single_apart B m (bit_high B m m h (omega arith))) e
bits_plus B m e false h = let same : B + 0 ≡ B = omega arith in ap (λ (x : ℕ). bit x e) same ∙ omega arith

pub bits_inside : (J : Joins) (S m e : ℕ) → e < m → bit (join_bits J S m) e ≡ or_none (inside J S e) 1
bits_inside J S zero e h = absurd (omega arith)
bits_inside J S (suc m) e h = go (eq-or-lt_of_le (le_of_suc-le-suc h)) (bits_inside J S m e)
  where
    next : (i : ℕ) → bit (join_bits J S (suc m)) i ≡ bit (join_bits J S m) i + or_none (inside J S m) (bit (2 ^ m) i)
    next i = ap (λ (x : ℕ). bit x i) (bits_next J S m) ∙ bits_plus (join_bits J S m) m i (inside J S m) (bits_below J S m)

    last : bit (join_bits J S (suc m)) m ≡ or_none (inside J S m) 1
    last = omega (arith, rw (bit_pow m) at (next m), bits_high J S m m (omega arith))

    go : (e ≡ m) ⊎ (e < m) → (e < m → bit (join_bits J S m) e ≡ or_none (inside J S e) 1) → bit (join_bits J S (suc m)) e ≡ or_none (inside J S e) 1
    go (inl q) below = subst (λ (x : ℕ). bit (join_bits J S (suc m)) x ≡ or_none (inside J S x) 1) (sym q) last
    go (inr l) below = omega (arith, rw (bit_pow_other m e (λ q. omega arith)) at (next e), or_none_le (inside J S m) 0, below l)

-- A member of the set is a join that lies in S.
pub join_of_bit : (J : Joins) (S m e : ℕ) → bit (join_bits J S m) e ≡ 1 → (e < m) × (inside J S e ≡ true)
join_of_bit J S m e h = elim (dec_lt e m) [ yes l ↦ (l, (or_none_some (inside J S e) 1 (omega (arith, bits_inside J S m e l))).0) | no l ↦ absurd (omega (arith, bits_high J S m e (omega arith))) ]
