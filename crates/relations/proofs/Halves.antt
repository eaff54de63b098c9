-- A connected set that one join alone links to the rest of a connected set: taking sets apart at a join, and putting them together.
-- A closed set of a half, with the other half where it has the join's end, is closed in the whole, so it holds the whole.
use Prim.Native.Nat.{ℕ, zero, suc, ◌+◌, ◌<◌, min}
use mathlib.Core.Path.{◌≡◌, refl, sym}
use mathlib.Core.Logic.{◌⊎◌, inl, inr}
use native.Mathlib.Omega.{arith}
use lib.Bits.{bit_and}
use Rattle.relations.specs.declared.Joins.{Joins}
use Rattle.relations.specs.Sets.{bit, Sub, Apart}
use Rattle.relations.specs.Growth.{first, second, Closed}
use Rattle.relations.proofs.Bits.{bit_le, bit_none, bit_and_lem, bit_add}
use Rattle.relations.proofs.Connected.{Conn}

-- S in two halves P and R, with p in the one and q in the other: every join in S has both its relations in one half, or they are p and q.
pub record Halves (J : Joins) (S P R p q : ℕ) : Type 0 where
  pub sums : (r : ℕ) → bit S r ≡ bit P r + bit R r
  pub here : bit P p ≡ 1
  pub there : bit R q ≡ 1
  pub link : (i : ℕ) → i < J.count → bit S (first J i) ≡ 1 → bit S (second J i) ≡ 1
      → (bit P (first J i) ≡ bit P (second J i)) ⊎ ((B : ℕ) → bit B p ≡ bit B q → bit B (first J i) ≡ bit B (second J i))

-- The same, seen from the other half.
pub turned : (J : Joins) (S P R p q : ℕ) → Halves J S P R p q → Halves J S R P q p
turned J S P R p q h =
    record {
      sums = λ r. omega (arith, h.sums r);
      here = h.there;
      there = h.here;
      link = λ i l f g. elim (h.link i l f g) [ inl same ↦ inl (omega (arith, h.sums (first J i), h.sums (second J i))) | inr linked ↦ inr (λ B e. linked B (sym e)) ];
    }

pub half_conn : (J : Joins) (S P R p q : ℕ) → Conn J S → Halves J S P R p q → Conn J P
half_conn J S P R p q c h = record { some = p; some_in = h.here; whole = λ A a r inside taken. by_end A a r inside taken (bit A p) refl }
  where
    -- X is R where A has p, and empty where not.
    within : (A X : ℕ) → Closed J P J.count A → ((r : ℕ) → bit X r ≡ min (bit R r) (bit A p)) → (r : ℕ) → bit P r ≡ 1 → bit A r ≡ 1 → Sub P A
    within A X a x r inside taken t =
        let apart : Apart (bit_and A P) X = λ i. omega (arith, bit_and_lem A P i, x i, h.sums i, bit_le S i) in
        let B = bit_and A P + X in
        let B-bit : (i : ℕ) → bit B i ≡ min (bit A i) (bit P i) + min (bit R i) (bit A p) = λ i. omega (arith, bit_add (bit_and A P) X apart i, bit_and_lem A P i, x i) in
        let ends : bit B p ≡ bit B q =
        omega (arith, B-bit p, B-bit q, h.here, h.there, h.sums p, h.sums q, bit_le S p, bit_le S q, bit_le A p, bit_le A q) in
        let closed : Closed J S J.count B = λ i l d f g. case i l d f g (bit P (first J i)) refl B B-bit ends (h.link i l f g) in
        omega (arith, c.whole B closed r (omega (arith, h.sums r, bit_le S r)) (omega (arith, B-bit r, h.sums r, bit_le S r)) t, B-bit t, h.sums t)
      where
        case : (i : ℕ) → i < J.count → (i ≡ J.count → ⊥) → bit S (first J i) ≡ 1 → bit S (second J i) ≡ 1 → (b : ℕ) → bit P (first J i) ≡ b
            → (B : ℕ) → ((j : ℕ) → bit B j ≡ min (bit A j) (bit P j) + min (bit R j) (bit A p)) → bit B p ≡ bit B q
            → (bit P (first J i) ≡ bit P (second J i)) ⊎ ((C : ℕ) → bit C p ≡ bit C q → bit C (first J i) ≡ bit C (second J i))
            → bit B (first J i) ≡ bit B (second J i)
        case i l d f g b z B B-bit ends (inr linked) = linked B ends
        case i l d f g zero z B B-bit ends (inl same) = omega (arith, B-bit (first J i), B-bit (second J i), h.sums (first J i), h.sums (second J i))
        case i l d f g (suc b) z B B-bit ends (inl same) =
            let one : bit P (first J i) ≡ 1 = omega (arith, bit_le P (first J i)) in
            let two : bit P (second J i) ≡ 1 = omega arith in
            let both = a i l d one two in
            omega (arith, B-bit (first J i), B-bit (second J i), h.sums (first J i), h.sums (second J i))

    by_end : (A : ℕ) → Closed J P J.count A → (r : ℕ) → bit P r ≡ 1 → bit A r ≡ 1 → (b : ℕ) → bit A p ≡ b → Sub P A
    by_end A a r inside taken zero z = within A 0 a (λ i. omega (arith, bit_none i)) r inside taken
    by_end A a r inside taken (suc b) z = within A R a (λ i. omega (arith, bit_le A p, bit_le R i)) r inside taken
