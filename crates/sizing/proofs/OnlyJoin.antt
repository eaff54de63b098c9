-- One join between a relation and a subquery that it is not in. It makes them a subquery, whose parts by that join they are: so they lie on its two
-- sides, and no other join leads from one side to the other.
use Prim.Native.Nat.{ℕ, ◌+◌, ◌^◌, ◌≤◌, ◌<◌}
use native.Mathlib.Decide.{ℕ_discrete}
use native.Mathlib.Omega.{arith}
use mathlib.Core.Path.{◌≡◌, sym, ap, subst, ◌∙◌}
use mathlib.Core.Logic.{inl, inr}
use lib.Bits.{bit_and}
use Rattle.relations.specs.declared.Joins.{Joins}
use Rattle.relations.specs.Sets.{bit}
use Rattle.relations.specs.Growth.{first, second}
use Rattle.relations.specs.Trees.{Tree, Subquery, side}
use Rattle.relations.proofs.Bits.{bit_le, bit_and_lem, bit_add, bit_pow, single_apart}
use Rattle.relations.proofs.Connected.{conn_of, conn_single}
use Rattle.relations.proofs.Subqueries.{subqueries_law}
use Rattle.relations.proofs.Trees.{side_other}
use Rattle.relations.proofs.Unions.{union, union_mask}
use Rattle.sizing.specs.Code.{Adjacent}
use Rattle.sizing.specs.Theorems.{OnlyJoin}
use Rattle.sizing.proofs.Adjacent.{Linked, linked}

module _ (J : Joins) (n : ℕ) (t : Tree J n) (T r : ℕ) (s : Subquery J n T) (low : r < n) (out : bit T r ≡ 0) where
  apart : (x : ℕ) → bit T x + bit (2 ^ r) x ≤ 1
  apart = single_apart T r out

  turned : (x : ℕ) → bit (2 ^ r) x + bit T x ≤ 1
  turned x = omega (arith, apart x)

  -- The two are a subquery.
  pub with_linked : (e : ℕ) → e < J.count → Linked J T r e → Subquery J n (T + 2 ^ r)
  with_linked e l (inl (p, q)) =
      let u = union J n t (2 ^ r) T e ((subqueries_law J n t).single r low) s turned l (ap (bit (2 ^ r)) p ∙ bit_pow r) q in
      let c : 2 ^ r + T ≡ T + 2 ^ r = omega arith in
      subst (λ (x : ℕ). Subquery J n x) c u.subquery
  with_linked e l (inr (p, q)) = (union J n t T (2 ^ r) e s ((subqueries_law J n t).single r low) apart l q (ap (bit (2 ^ r)) p ∙ bit_pow r)).subquery

  pub with_adjacent : Adjacent J T r → Subquery J n (T + 2 ^ r)
  with_adjacent (e, l, h) = with_linked e l (linked J T r e h)

  -- The relation and each of T lie on different sides.
  sides : (e : ℕ) → e < J.count → Linked J T r e → (x : ℕ) → bit T x ≡ 1 → bit (side J n e) r + bit (side J n e) x ≡ 1
  sides e l (inl (p, q)) x h =
      let m = union_mask J n t (2 ^ r) T e (conn_single J r) (conn_of J n T s) turned l (ap (bit (2 ^ r)) p ∙ bit_pow r) q in
      let at : (y : ℕ) → bit (bit_and (2 ^ r + T) (side J n e)) y ≡ bit (2 ^ r) y = λ y. ap (λ (z : ℕ). bit z y) m in
      omega (
        arith,
        at r,
        at x,
        bit_and_lem (2 ^ r + T) (side J n e) r,
        bit_and_lem (2 ^ r + T) (side J n e) x,
        bit_add (2 ^ r) T turned r,
        bit_add (2 ^ r) T turned x,
        bit_pow r,
        turned x,
        bit_le (side J n e) r,
        bit_le (side J n e) x,
      )
  sides e l (inr (p, q)) x h =
      let m = union_mask J n t T (2 ^ r) e (conn_of J n T s) (conn_single J r) apart l q (ap (bit (2 ^ r)) p ∙ bit_pow r) in
      let at : (y : ℕ) → bit (bit_and (T + 2 ^ r) (side J n e)) y ≡ bit T y = λ y. ap (λ (z : ℕ). bit z y) m in
      omega (
        arith,
        at r,
        at x,
        bit_and_lem (T + 2 ^ r) (side J n e) r,
        bit_and_lem (T + 2 ^ r) (side J n e) x,
        bit_add T (2 ^ r) apart r,
        bit_add T (2 ^ r) apart x,
        bit_pow r,
        bit_le (side J n e) r,
        bit_le (side J n e) x,
      )

  one_join : (e i : ℕ) → e < J.count → i < J.count → Linked J T r e → Linked J T r i → e ≡ i
  one_join e i l k h g = elim (ℕ_discrete e i) [ yes q ↦ q | no d ↦ absurd (go (λ q. d (sym q)) g) ]
    where
      go : (i ≡ e → ⊥) → Linked J T r i → ⊥
      go d (inl (p, q)) = omega (arith, ap (bit (side J n e)) p, side_other J n t e l i k d, sides e l h (second J i) q)
      go d (inr (p, q)) = omega (arith, ap (bit (side J n e)) p, side_other J n t e l i k d, sides e l h (first J i) q)

pub only_join : OnlyJoin
only_join J n t T r s low out e i l k h g = one_join J n t T r s low out e i l k (linked J T r e h) (linked J T r i g)
