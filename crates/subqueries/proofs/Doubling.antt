-- The table of all sets by doubling. A set M lies in a set with a new relation where it lies in the set without it, or where the new relation is
-- its highest and the rest of it lies there: so a new set's joins are those of the set without the relation and those that arrive.
use Prim.Native.Nat.{ℕ, zero, suc, ◌+◌, ◌-◌, ◌*◌, ◌^◌, ◌≤◌, ◌<◌}
use mathlib.Core.Path.{◌≡◌, refl, sym, ap, ◌∙◌}
use mathlib.Core.Bool.{Bool, true, false}
use mathlib.Core.List.{List}
use native.Mathlib.Nat.{zero-add, pow-suc}
use native.Mathlib.Numerals.{add-one}
use native.Mathlib.Decide.{dec_lt}
use native.Mathlib.Omega.{arith}
use borrow.Author.Tests.{eqb-true, eqb-false, eq-eqb, ne_eqb, lt-ltb, le-ltb, le-leb, lt-leb}
use lib.Bits.{bit_and, and_block, and_le_l}
use lib.Count.{ones}
use lib.Dec.{eqb}
use lib.ListN.{length, get_or}
use lib.Pow.{pow_mono}
use Rattle.relations.specs.declared.Joins.{Joins}
use Rattle.relations.specs.Growth.{first, second, inside}
use Rattle.relations.specs.Trees.{joins_in, join_bits}
use Rattle.relations.specs.Code.{Listed, ends_of, or_none, most_sets}
use Rattle.relations.proofs.Bits.{bit_high, bit_none}
use Rattle.relations.proofs.Counts.{ones_more, ones_zero}
use Rattle.relations.proofs.JoinBits.{joins_next, bits_next}
use Rattle.relations.proofs.Loops.{ends_in}
use Rattle.subqueries.specs.Table.{entry, TableOf, arrives, arriving, Upper, Roomy}
use Rattle.subqueries.proofs.Entries.{entry_most}

-- Tests of numbers that are equal together.
same_eqb : (a b c d : ℕ) → (a ≡ b → c ≡ d) → (c ≡ d → a ≡ b) → eqb a b ≡ eqb c d
same_eqb a b c d f g = go (eqb a b) refl
  where
    go : (t : Bool) → eqb a b ≡ t → t ≡ eqb c d
    go true q = sym (eq-eqb c d (f (eqb-true a b q)))
    go false q = sym (ne_eqb c d (λ e. eqb-false a b q (g e)))

module _ (r T M w : ℕ) (below : T < 2 ^ r) where
  block : (a b : ℕ) → b < 2 ^ r → bit_and (2 ^ r + T) (a * 2 ^ r + b) ≡ bit_and 1 a * 2 ^ r + bit_and T b
  block a b h =
      let one : 1 * 2 ^ r + T ≡ 2 ^ r + T = omega arith in
      ap (λ (x : ℕ). bit_and x (a * 2 ^ r + b)) (sym one) ∙ and_block r 1 a T b below h

  pub within_with : or_none (eqb (bit_and (2 ^ r + T) M) M) w ≡ or_none (eqb (bit_and T M) M) w + or_none (arrives (2 ^ r) M T) w
  unfolding arrives
  within_with = elim (dec_lt M (2 ^ r)) [ yes h ↦ lower h | no h ↦ elim (dec_lt M (2 * 2 ^ r)) [ yes k ↦ highest (omega arith) k | no k ↦ higher (omega arith) ] ]
    where
      lower : M < 2 ^ r → or_none (eqb (bit_and (2 ^ r + T) M) M) w ≡ or_none (eqb (bit_and T M) M) w + or_none (arrives (2 ^ r) M T) w
      lower h =
          let none : 0 * 2 ^ r + M ≡ M = omega arith in
          let same : bit_and (2 ^ r + T) M ≡ bit_and T M = ap (λ (x : ℕ). bit_and (2 ^ r + T) x) (sym none) ∙ block 0 M h ∙ omega arith in
          rw (same, lt-leb (2 ^ r) M h) (omega arith)

      highest : 2 ^ r ≤ M → M < 2 * 2 ^ r → or_none (eqb (bit_and (2 ^ r + T) M) M) w ≡ or_none (eqb (bit_and T M) M) w + or_none (arrives (2 ^ r) M T) w
      highest h k =
          let rest = M - 2 ^ r in
          let one : 1 * 2 ^ r + rest ≡ M = omega arith in
          let both : bit_and (2 ^ r + T) M ≡ 2 ^ r + bit_and T rest = ap (λ (x : ℕ). bit_and (2 ^ r + T) x) (sym one) ∙ block 1 rest (omega arith) ∙ omega arith in
          rw (
            le-leb (2 ^ r) M h,
            lt-ltb M (2 * 2 ^ r) k,
            ne_eqb (bit_and T M) M (λ q. omega (arith, and_le_l T M)),
            same_eqb (bit_and (2 ^ r + T) M) M (bit_and T rest) rest (λ q. omega arith) (λ q. omega arith),
          ) (omega arith)

      higher : 2 * 2 ^ r ≤ M → or_none (eqb (bit_and (2 ^ r + T) M) M) w ≡ or_none (eqb (bit_and T M) M) w + or_none (arrives (2 ^ r) M T) w
      higher h =
          rw (
            le-ltb M (2 * 2 ^ r) h,
            ne_eqb (bit_and T M) M (λ q. omega (arith, and_le_l T M)),
            ne_eqb (bit_and (2 ^ r + T) M) M (λ q. omega (arith, and_le_l (2 ^ r + T) M)),
            le-leb (2 ^ r) M (omega arith),
          ) (omega arith)

-- The joins of the set with the new relation, and its entry.
weighed : (d : Bool) (w : ℕ) → or_none d (256 + w) ≡ 256 * or_none d 1 + or_none d w
weighed true w = refl
weighed false w = refl

joins_with :
    (J : Joins) (l : List ℕ) (r T m : ℕ) → T < 2 ^ r → ((i : ℕ) → i < m → get_or l i 0 ≡ ends_of J i) →
    256 * joins_in J (2 ^ r + T) m + join_bits J (2 ^ r + T) m ≡ (256 * joins_in J T m + join_bits J T m) + arriving l (2 ^ r) T m
unfolding joins_in join_bits arriving
joins_with J l r T zero h e = refl
joins_with J l r T (suc m) h e =
    omega (
      arith,
      joins_with J l r T m h (λ i b. e i (omega arith)),
      next (2 ^ r + T),
      next T,
      both,
    )
  where
    both : or_none (inside J (2 ^ r + T) m) (256 + 2 ^ m) ≡ or_none (inside J T m) (256 + 2 ^ m) + or_none (arrives (2 ^ r) (get_or l m 0) T) (256 + 2 ^ m)
    both = rw (← ends_in J (2 ^ r + T) m, ← ends_in J T m, e m (omega arith)) (within_with r T (ends_of J m) (256 + 2 ^ m) h)

    next : (S : ℕ) → 256 * joins_in J S (suc m) + join_bits J S (suc m) ≡ (256 * joins_in J S m + join_bits J S m) + or_none (inside J S m) (256 + 2 ^ m)
    next S = omega (arith, joins_next J S m, bits_next J S m, weighed (inside J S m) (2 ^ m))

entry_with :
    (J : Joins) (l : List ℕ) (r T : ℕ) → T < 2 ^ r → Listed l (ends_of J) J.count J.count → entry J (2 ^ r + T) ≡ entry J T + (65536 + arriving l (2 ^ r) T J.count)
unfolding entry
entry_with J l r T h e =
    let same : 2 ^ r + T ≡ T + 2 ^ r = omega arith in
    omega (arith, ap ones same, ones_more T r (bit_high T r r h (omega arith)), joins_with J l r T J.count h e.each)

-- Nothing lies in the empty set.
outside : (J : Joins) (e w : ℕ) → or_none (inside J 0 e) w ≡ 0
unfolding inside
outside J e w = rw (bit_none (first J e), bit_none (second J e))

joins_none : (J : Joins) (m : ℕ) → 256 * joins_in J 0 m + join_bits J 0 m ≡ 0
unfolding joins_in join_bits
joins_none J zero = refl
joins_none J (suc m) = omega (arith, joins_none J m, joins_next J 0 m, bits_next J 0 m, outside J m 1, outside J m (2 ^ m))

entry_none : (J : Joins) → entry J 0 ≡ 0
unfolding entry
entry_none J = omega (arith, ones_zero, joins_none J J.count)

-- The empty set alone, one relation more, and all of them.
pub table_none : (J : Joins) (l : List ℕ) → length l ≡ most_sets → get_or l 0 0 ≡ 0 → TableOf J l (2 ^ 0)
table_none J l h z = record { long = h; each = λ i k. let first : i ≡ 0 = omega arith in rw first (z ∙ sym (entry_none J)) }

pub table_more :
    (J : Joins) (old new l : List ℕ) (half r : ℕ) → TableOf J old (2 ^ r) → Listed l (ends_of J) J.count J.count → half ≡ 2 ^ r →
    Upper old new half half (λ i. get_or old i 0 + (65536 + arriving l half i (length l))) → TableOf J new (2 ^ (r + 1))
table_more J old new l half r t e q u = record { long = u.long ∙ t.long; each = λ i k. elim (dec_lt i half) [ yes h ↦ u.lower i h ∙ t.each i (omega arith) | no h ↦ upper i k (omega arith) ] }
  where
    above : (T : ℕ) → T < half → get_or new (half + T) 0 ≡ entry J (half + T)
    above T h = u.done T h ∙ rw (t.each T (omega arith), q, e.long) (sym (entry_with J l r T (omega arith) e))

    upper : (i : ℕ) → i < 2 ^ (r + 1) → half ≤ i → get_or new i 0 ≡ entry J i
    upper i k h =
        let whole : half + (i - half) ≡ i = omega arith in
        rw whole at (above (i - half) (omega (arith, pow-suc 2 r, ap (λ (x : ℕ). 2 ^ x) (add-one r))))

pub table_roomy : (J : Joins) (l : List ℕ) (half r : ℕ) → TableOf J l (2 ^ r) → J.count ≤ 8 → r ≤ J.count → half ≡ 2 ^ r → Roomy l half 0 20
table_roomy J l half r t few h q =
    record { long = t.long; low = (let most : 2 ^ r ≤ 2 ^ 8 = pow_mono {j = 8} (omega arith) in omega arith); room = λ i k. rw (zero-add, t.each i (omega arith)) (entry_most J i few r (omega arith) (omega arith)) }
