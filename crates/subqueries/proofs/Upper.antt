-- The upper half of a table, as passes over it fill it and add to it, and the room that 32 bits leave for that.
use Prim.Native.Nat.{ℕ, zero, suc, ◌+◌, ◌-◌, ◌*◌, ◌^◌, ◌≤◌, ◌<◌, zero-le}
use mathlib.Core.Path.{◌≡◌, refl, ◌∙◌}
use mathlib.Core.Bool.{false, ◌&&◌, and-false}
use mathlib.Core.List.{List}
use native.Mathlib.Nat.{zero-add}
use native.Mathlib.Numerals.{add-one}
use native.Mathlib.Omega.{arith}
use native.Mathlib.Decide.{dec_lt}
use borrow.Author.Tests.{le-leb, lt-ltb, lt-leb, le-ltb}
use lib.Bits.{bit_and}
use lib.Dec.{eqb, leb, ltb}
use lib.ListN.{get_or}
use lib.Pow.{pow_mono}
use Rattle.relations.specs.Code.{or_none}
use Rattle.relations.proofs.JoinBits.{or_none_le}
use Rattle.subqueries.specs.Table.{arrives, arriving, Upper, Roomy}

-- Two passes over it, the second adding to what the first left.
pub upper_then :
    (old mid new : List ℕ) (half : ℕ) (f g h : ℕ → ℕ) → Upper old mid half half f → Upper mid new half half (λ i. get_or mid (half + i) 0 + g i) →
    ((i : ℕ) → h i ≡ f i + g i) → Upper old new half half h
upper_then old mid new half f g h a b e =
    record {
      long = b.long ∙ a.long;
      lower = λ i l. b.lower i l ∙ a.lower i l;
      done = λ i l. omega (arith, a.done i l, b.done i l, e i);
      left = λ i l. b.left i l ∙ a.left i l;
    }

pub upper_same : (old new : List ℕ) (half m : ℕ) (f g : ℕ → ℕ) → Upper old new half m f → ((i : ℕ) → f i ≡ g i) → Upper old new half m g
upper_same old new half m f g u e = record { long = u.long; lower = u.lower; done = λ i l. u.done i l ∙ e i; left = u.left }

-- A join of which the new relation is the highest end, and any other join.
pub link_arrives :
    (old new : List ℕ) (half M add : ℕ) → half ≤ M → M < 2 * half →
    Upper old new half half (λ i. get_or old (half + i) 0 + or_none (eqb (bit_and i (M - half)) (M - half)) add) →
    Upper old new half half (λ i. get_or old (half + i) 0 + or_none (arrives half M i) add)
unfolding arrives
link_arrives old new half M add h k u = upper_same old new half half _ _ u (λ i. rw (le-leb half M h, lt-ltb M (2 * half) k))

pub link_none :
    (old : List ℕ) (half M add : ℕ) → (half ≤ M → M < 2 * half → ⊥) →
    Upper old old half half (λ i. get_or old (half + i) 0 + or_none (arrives half M i) add)
unfolding arrives
link_none old half M add h = record { long = refl; lower = λ i l. refl; done = λ i l. rw outside (omega arith); left = λ i l. refl }
  where
    outside : (leb half M && ltb M (2 * half)) ≡ false
    outside = elim (dec_lt M half) [ yes k ↦ rw (lt-leb half M k) | no k ↦ rw (le-ltb M (2 * half) (omega arith)) (and-false (leb half M)) ]

-- Room after doubling, and after the joins below m.
pub doubled_roomy : (old new : List ℕ) (half : ℕ) → Roomy old half 0 20 → Upper old new half half (λ i. get_or old i 0 + 65536) → Roomy new half half 21
doubled_roomy old new half r u = record { long = u.long ∙ r.long; low = r.low; room = λ i l. omega (arith, u.done i l, rw zero-add at (r.room i l)) }

arriving_le : (l : List ℕ) (half T m : ℕ) → m ≤ 8 → arriving l half T m ≤ 384 * m
unfolding arriving
arriving_le l half T zero h = zero-le
arriving_le l half T (suc m) h =
    let most : 2 ^ m ≤ 2 ^ 7 = pow_mono {j = 7} (omega arith) in
    omega (arith, arriving_le l half T m (omega arith), or_none_le (arrives half (get_or l m 0) T) (256 + 2 ^ m))

pub linked_roomy :
    (old new l : List ℕ) (half m : ℕ) → Roomy old half half 21 → Upper old new half half (λ i. get_or old (half + i) 0 + arriving l half i m) → m ≤ 8 → Roomy new half half 22
linked_roomy old new l half m r u h =
    record { long = u.long ∙ r.long; low = r.low; room = λ i b. omega (arith, u.done i b, r.room i b, arriving_le l half i m h) }

-- The joins below 0, and one join more.
pub linked_none : (old l : List ℕ) (half : ℕ) → Upper old old half half (λ i. get_or old (half + i) 0 + arriving l half i 0)
unfolding arriving
linked_none old l half = record { long = refl; lower = λ i h. refl; done = λ i h. omega arith; left = λ i h. refl }

pub linked_more :
    (old mid new l : List ℕ) (half e w : ℕ) → Upper old mid half half (λ i. get_or old (half + i) 0 + arriving l half i e) →
    Upper mid new half half (λ i. get_or mid (half + i) 0 + or_none (arrives half (get_or l e 0) i) w) → w ≡ 256 + 2 ^ e →
    Upper old new half half (λ i. get_or old (half + i) 0 + arriving l half i (e + 1))
unfolding arriving
linked_more old mid new l half e w a b q =
    upper_then old mid new half (λ i. get_or old (half + i) 0 + arriving l half i e) (λ i. or_none (arrives half (get_or l e 0) i) w)
    (λ i. get_or old (half + i) 0 + arriving l half i (e + 1)) a b (λ i. rw (add-one, q) (omega arith))

-- The mask of one of eight joins.
pub join_mask : (v e n : ℕ) → v ≡ 2 ^ e → e < n → n ≤ 8 → v < 256
join_mask v e n q h k = let most : 2 ^ e ≤ 2 ^ 7 = pow_mono {j = 7} (omega arith) in omega arith
