-- What the test of a leading join means, and what following such a join adds: one relation, within every set that holds the join's relations.
use Prim.Native.Nat.{ℕ, zero, suc, ◌+◌, ◌^◌, ◌≤◌, max}
use mathlib.Core.Path.{◌≡◌, refl, sym, ap, ◌∙◌}
use mathlib.Core.Bool.{Bool, true, false, not, ◌&&◌}
use native.Mathlib.Omega.{arith}
use lib.Count.{ones}
use lib.Dec.{eqb}
use borrow.Author.Tests.{eqb-true, eqb-false, eq-eqb, ne_eqb, not-true}
use Rattle.relations.specs.declared.Joins.{Joins}
use Rattle.relations.specs.Sets.{bit, Sub, put}
use Rattle.relations.specs.Growth.{first, second, inside, leads, along}
use Rattle.relations.proofs.Bits.{bit_le, bit_put, bit_pow, sub_single, put_old}
use Rattle.relations.proofs.Counts.{ones_put}

-- Two constructors that are equal would make 0 equal 1.
pub clash : ◌≡◌ {A = ℕ} 0 1 → ⊥
clash z = omega arith

pub never_both : (t : Bool) → t ≡ true → t ≡ false → ⊥
never_both t p q = cc

pub both_true : (a b : Bool) → (a && b) ≡ true → (a ≡ true) × (b ≡ true)
both_true true b e = (refl, e)
both_true false b e = absurd (cc)

-- A join in S has both its relations there.
pub inside_ends : (J : Joins) (S e : ℕ) → inside J S e ≡ true → (bit S (first J e) ≡ 1) × (bit S (second J e) ≡ 1)
unfolding inside
inside_ends J S e h =
    let two = eqb-true (bit S (first J e) + bit S (second J e)) 2 h in
    (omega (arith, bit_le S (first J e), bit_le S (second J e)), omega (arith, bit_le S (first J e), bit_le S (second J e)))

pub ends_inside : (J : Joins) (S e : ℕ) → bit S (first J e) ≡ 1 → bit S (second J e) ≡ 1 → inside J S e ≡ true
unfolding inside
ends_inside J S e p q = eq-eqb (bit S (first J e) + bit S (second J e)) 2 (omega arith)

-- What it means that a join leads out of A within S, skipping x.
pub record Leads (J : Joins) (S x A e : ℕ) : Type 0 where
  pub other : e ≡ x → ⊥
  pub first_in : bit S (first J e) ≡ 1
  pub second_in : bit S (second J e) ≡ 1
  pub half : bit A (first J e) + bit A (second J e) ≡ 1

pub leads_means : (J : Joins) (S x A e : ℕ) → leads J S x A e ≡ true → Leads J S x A e
unfolding leads
leads_means J S x A e h =
    let outer = both_true (not (eqb e x) && inside J S e) (eqb (bit A (first J e) + bit A (second J e)) 1) h in
    let inner = both_true (not (eqb e x)) (inside J S e) outer.0 in
    let ends = inside_ends J S e inner.1 in
    record {
      other = eqb-false e x (not-true (eqb e x) inner.0);
      first_in = ends.0;
      second_in = ends.1;
      half = eqb-true (bit A (first J e) + bit A (second J e)) 1 outer.1;
    }

-- Of a join in S that is not skipped, the test is whether just one of its relations is in A.
pub leads_is :
    (J : Joins) (S x A e : ℕ) → (e ≡ x → ⊥) → bit S (first J e) ≡ 1 → bit S (second J e) ≡ 1
    → leads J S x A e ≡ eqb (bit A (first J e) + bit A (second J e)) 1
unfolding leads
leads_is J S x A e d p q = rw (ne_eqb e x d, ends_inside J S e p q)

pub leads_not :
    (J : Joins) (S x A e : ℕ) → leads J S x A e ≡ false → (e ≡ x → ⊥) → bit S (first J e) ≡ 1 → bit S (second J e) ≡ 1
    → bit A (first J e) ≡ bit A (second J e)
leads_not J S x A e h d p q =
    let test = sym (leads_is J S x A e d p q) ∙ h in
    omega (arith, eqb-false (bit A (first J e) + bit A (second J e)) 1 test, bit_le A (first J e), bit_le A (second J e))

-- What following a join adds.
pub bit_along : (J : Joins) (A e r : ℕ) → bit (along J A e) r ≡ max (max (bit A r) (bit (2 ^ first J e) r)) (bit (2 ^ second J e) r)
bit_along J A e r = omega (arith, bit_put (put A (first J e)) (second J e) r, bit_put A (first J e) r)

pub along_has : (J : Joins) (A e : ℕ) → Sub A (along J A e)
along_has J A e r = omega (arith, bit_along J A e r)

pub along_within : (J : Joins) (A B e : ℕ) → Sub A B → bit B (first J e) ≡ 1 → bit B (second J e) ≡ 1 → Sub (along J A e) B
along_within J A B e s p q r = omega (arith, bit_along J A e r, s r, sub_single B (first J e) p r, sub_single B (second J e) q r)

pub ones_along : (J : Joins) (A e : ℕ) → bit A (first J e) + bit A (second J e) ≡ 1 → ones (along J A e) ≡ ones A + 1
ones_along J A e h = go (bit A (first J e)) refl
  where
    go : (b : ℕ) → bit A (first J e) ≡ b → ones (along J A e) ≡ ones A + 1
    go zero p =
        ap ones (put_old (put A (first J e)) (second J e) (omega (arith, bit_put A (first J e) (second J e), bit_le (2 ^ first J e) (second J e))))
        ∙ ones_put A (first J e) p
    go (suc b) p =
        ap (λ (X : ℕ). ones (put X (second J e))) (put_old A (first J e) (omega (arith, bit_le A (first J e))))
        ∙ ones_put A (second J e) (omega arith)

-- A join brings at most one relation to a set that has one of its ends.
pub along_few : (J : Joins) (A e : ℕ) → 1 ≤ bit A (first J e) + bit A (second J e) → ones (along J A e) ≤ ones A + 1
along_few J A e h = go (bit A (first J e) + bit A (second J e)) refl
  where
    go : (x : ℕ) → bit A (first J e) + bit A (second J e) ≡ x → ones (along J A e) ≤ ones A + 1
    go zero q = absurd (omega arith)
    go (suc zero) q = omega (arith, ones_along J A e q)
    go (suc (suc x)) q =
        let f : put A (first J e) ≡ A = put_old A (first J e) (omega (arith, bit_le A (first J e), bit_le A (second J e))) in
        let s : put A (second J e) ≡ A = put_old A (second J e) (omega (arith, bit_le A (first J e), bit_le A (second J e))) in
        let same : along J A e ≡ A = ap (λ (B : ℕ). put B (second J e)) f ∙ s in
        omega (arith, ap ones same)

pub along_first : (J : Joins) (A e : ℕ) → bit (along J A e) (first J e) ≡ 1
along_first J A e = omega (arith, bit_along J A e (first J e), bit_pow (first J e), bit_le A (first J e), bit_le (2 ^ second J e) (first J e))

pub along_second : (J : Joins) (A e : ℕ) → bit (along J A e) (second J e) ≡ 1
along_second J A e = omega (arith, bit_along J A e (second J e), bit_pow (second J e), bit_le A (second J e), bit_le (2 ^ first J e) (second J e))
