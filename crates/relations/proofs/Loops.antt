-- What the code's loops and calls lean on: a join is tested by its ends as by its relations, and arrays over sets have a place for every set of nine relations.
use Prim.Native.Nat.{ℕ, ◌+◌, ◌^◌, ◌≤◌, ◌<◌}
use mathlib.Core.Path.{◌≡◌, refl, ap}
use mathlib.Core.Bool.{Bool, true, false}
use native.Mathlib.Omega.{arith}
use borrow.Author.Tests.{eqb-true, eqb-false, eq-eqb, ne_eqb}
use lib.Bits.{bit_and}
use lib.Dec.{eqb}
use lib.Pow.{pow_mono}
use Rattle.relations.specs.declared.Joins.{Joins}
use Rattle.relations.specs.Sets.{bit, put, Sub}
use Rattle.relations.specs.Growth.{first, second, inside}
use Rattle.relations.specs.Code.{ends_of, most_sets}
use Rattle.relations.proofs.Bits.{bit_le, bit_and_lem, and_of_sub, bit_pow, bit_put, sub_single}

-- A join lies in a set where the set masked by its ends is the ends.
pub ends_in : (J : Joins) (S e : ℕ) → eqb (bit_and S (ends_of J e)) (ends_of J e) ≡ inside J S e
unfolding inside ends_of
ends_in J S e = go (eqb (bit S (first J e) + bit S (second J e)) 2) refl
  where
    f : ℕ
    f = first J e

    s : ℕ
    s = second J e

    M : ℕ
    M = put (2 ^ f) s

    has_first : bit M f ≡ 1
    has_first = omega (arith, bit_put (2 ^ f) s f, bit_pow f, bit_le (2 ^ s) f)

    has_second : bit M s ≡ 1
    has_second = omega (arith, bit_put (2 ^ f) s s, bit_pow s, bit_le (2 ^ f) s)

    held : bit S f ≡ 1 → bit S s ≡ 1 → Sub M S
    held a b r = omega (arith, bit_put (2 ^ f) s r, sub_single S f a r, sub_single S s b r)

    go : (d : Bool) → eqb (bit S f + bit S s) 2 ≡ d → eqb (bit_and S M) M ≡ d
    go true p =
        let h = eqb-true (bit S f + bit S s) 2 p in
        eq-eqb _ _ (and_of_sub M S (held (omega (arith, bit_le S f, bit_le S s, h)) (omega (arith, bit_le S f, bit_le S s, h))))
    go false p =
        ne_eqb (bit_and S M) M λ q.
        eqb-false (bit S f + bit S s) 2 p
        (omega (arith, ap (λ (x : ℕ). bit x f) q, ap (λ (x : ℕ). bit x s) q, bit_and_lem S M f, bit_and_lem S M s, has_first, has_second, bit_le S f, bit_le S s))

-- The sets of at most nine relations are few.
pub few_sets : (m : ℕ) → m ≤ 8 → 2 ^ (m + 1) ≤ most_sets
few_sets m h = pow_mono {j = 9} (omega arith)

pub below_sets : (S n : ℕ) → n ≤ 9 → S < 2 ^ n → S < most_sets
below_sets S n l h = omega (arith, pow_mono l)
