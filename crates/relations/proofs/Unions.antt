-- Two disjoint subqueries with one end of a join each: a closed set that holds one of them holds the join's other end, so the other too.
-- They are the parts of their sum, since the join's side holds the first and none of the second.
use Prim.Native.Nat.{ℕ, zero, suc, ◌+◌, ◌-◌, ◌^◌, ◌≤◌, ◌<◌}
use mathlib.Core.Path.{◌≡◌, refl, ap, ◌∙◌, subst}
use native.Mathlib.Nat.{add-sub_cancel_left}
use native.Mathlib.Omega.{arith}
use lib.Bits.{bit_and}
use lib.Pow.{lt_of_le_ones}
use Rattle.relations.specs.declared.Joins.{Joins}
use Rattle.relations.specs.Sets.{bit, Sub, Apart, all}
use Rattle.relations.specs.Growth.{first, second, inside, Closed}
use Rattle.relations.specs.Trees.{Tree, part, side}
use Rattle.relations.specs.Theorems.{UnionLaw}
use Rattle.relations.proofs.Bits.{ext, bit_le, bit_and_lem, bit_add, sub_all, le_of_sub}
use Rattle.relations.proofs.Leads.{ends_inside}
use Rattle.relations.proofs.Connected.{Conn, conn_of, of_conn, subquery_range}
use Rattle.relations.proofs.Trees.{side_first, side_second, side_other}
use Rattle.relations.proofs.Splits.{part_masked}

-- Two disjoint connected sets with one end of e each make a connected set.
pub union_conn : (J : Joins) (P R e : ℕ) → Conn J P → Conn J R → Apart P R → e < J.count → bit P (first J e) ≡ 1 → bit R (second J e) ≡ 1 → Conn J (P + R)
union_conn J P R e c d apart l f g = record {
  some = first J e;
  some_in = omega (arith, sum (first J e), apart (first J e));
  whole = λ A k r inside taken t. from A k r taken (bit P r) refl inside t;
}
  where
    sum : (r : ℕ) → bit (P + R) r ≡ bit P r + bit R r
    sum = bit_add P R apart

    in_first : (A : ℕ) → Closed J (P + R) J.count A → (r : ℕ) → bit P r ≡ 1 → bit A r ≡ 1 → Sub P A
    in_first A k = c.whole A (λ i b x u w. k i b x (omega (arith, sum (first J i), u, apart (first J i))) (omega (arith, sum (second J i), w, apart (second J i))))

    in_second : (A : ℕ) → Closed J (P + R) J.count A → (r : ℕ) → bit R r ≡ 1 → bit A r ≡ 1 → Sub R A
    in_second A k = d.whole A (λ i b x u w. k i b x (omega (arith, sum (first J i), u, apart (first J i))) (omega (arith, sum (second J i), w, apart (second J i))))

    across : (A : ℕ) → Closed J (P + R) J.count A → bit A (first J e) ≡ bit A (second J e)
    across A k = k e l (λ q. omega arith) (omega (arith, sum (first J e), apart (first J e))) (omega (arith, sum (second J e), apart (second J e)))

    from : (A : ℕ) → Closed J (P + R) J.count A → (r : ℕ) → bit A r ≡ 1 → (b : ℕ) → bit P r ≡ b → bit (P + R) r ≡ 1 → Sub (P + R) A
    from A k r taken (suc b) z inside t =
        let p = in_first A k r (omega (arith, bit_le P r)) taken in
        let q = in_second A k (second J e) g (omega (arith, p (first J e), across A k, bit_le A (first J e))) in
        omega (arith, sum t, p t, q t, apart t)
    from A k r taken zero z inside t =
        let q = in_second A k r (omega (arith, sum r, inside)) taken in
        let p = in_first A k (first J e) f (omega (arith, q (second J e), across A k, bit_le A (second J e))) in
        omega (arith, sum t, p t, q t, apart t)

module _ (J : Joins) (n : ℕ) (t : Tree J n) (P R e : ℕ) (c : Conn J P) (d : Conn J R) (apart : Apart P R) (l : e < J.count)
    (f : bit P (first J e) ≡ 1) (g : bit R (second J e) ≡ 1) where
  -- The side holds P, which has no second end of e, and none of R, which has no first end.
  first_on_side : Sub P (side J n e)
  first_on_side =
      c.whole (side J n e) (λ i b x u w.
      side_other J n t e l i b (λ q. omega (arith, subst (λ (j : ℕ). bit P (second J j) ≡ 1) q w, g, apart (second J e)))) (first J e) f
      (side_first J n t e l)

  second_off_side : Apart R (side J n e)
  second_off_side r = go (bit R r) refl (bit (side J n e) r) refl
    where
      go : (a : ℕ) → bit R r ≡ a → (b : ℕ) → bit (side J n e) r ≡ b → bit R r + bit (side J n e) r ≤ 1
      go zero p b q = omega (arith, bit_le (side J n e) r)
      go (suc a) p zero q = omega (arith, bit_le R r)
      go (suc a) p (suc b) q =
          let held = d.whole (side J n e) (λ i h x u w.
          side_other J n t e l i h (λ z. omega (arith, subst (λ (j : ℕ). bit R (first J j) ≡ 1) z u, f, apart (first J e)))) r
          (omega (arith, bit_le R r)) (omega (arith, bit_le (side J n e) r)) in
          absurd (omega (arith, held (second J e), g, side_second J n t e l))

  pub union_mask : bit_and (P + R) (side J n e) ≡ P
  union_mask =
      ext (bit_and (P + R) (side J n e)) P (λ r.
      omega (arith, bit_and_lem (P + R) (side J n e) r, bit_add P R apart r, first_on_side r, second_off_side r, bit_le P r, bit_le R r))

pub sum_below : (P R n : ℕ) → Apart P R → P < 2 ^ n → R < 2 ^ n → P + R < 2 ^ n
sum_below P R n apart p r =
    lt_of_le_ones n (le_of_sub (P + R) (all n) (λ i. omega (arith, bit_add P R apart i, apart i, sub_all P n p i, sub_all R n r i)))

pub union : UnionLaw
union J n t P R e p r apart l f g =
    let c = conn_of J n P p in
    let d = conn_of J n R r in
    let both = union_conn J P R e c d apart l f g in
    let below = sum_below P R n apart (subquery_range J n P p).1 (subquery_range J n R r).1 in
    let f-in : bit (P + R) (first J e) ≡ 1 = omega (arith, bit_add P R apart (first J e), apart (first J e)) in
    let g-in : bit (P + R) (second J e) ≡ 1 = omega (arith, bit_add P R apart (second J e), apart (second J e)) in
    let first_is : part J n (P + R) e ≡ P = part_masked J n t (P + R) e l below both f-in g-in ∙ union_mask J n t P R e c d apart l f g in
    record {
      subquery = of_conn J n (P + R) below both;
      within = ends_inside J (P + R) e f-in g-in;
      first_is = first_is;
      second_is = ap (λ (X : ℕ). P + R - X) first_is ∙ add-sub_cancel_left P R;
    }
