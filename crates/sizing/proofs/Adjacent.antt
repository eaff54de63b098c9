-- What the tests of a worked size mean: a join that links a relation with those taken, and a relation that may join in.
use Prim.Native.Nat.{ℕ, ◌+◌, ◌^◌, ◌≤◌, ◌<◌}
use native.Mathlib.Decide.{dec_lt}
use native.Mathlib.Omega.{arith}
use mathlib.Core.Path.{◌≡◌, refl, sym, ap, ◌∙◌}
use mathlib.Core.Bool.{Bool, true, false, ◌&&◌, ◌||◌}
use mathlib.Core.Logic.{◌⊎◌, inl, inr}
use lib.Dec.{eqb, ltb}
use borrow.Author.Tests.{eqb-true, eq-eqb, ltb-true, lt-ltb}
use Rattle.relations.specs.declared.Joins.{Joins}
use Rattle.relations.specs.Sets.{bit, Sub}
use Rattle.relations.specs.Growth.{first, second}
use Rattle.relations.proofs.Bits.{bit_le, bit_pow, more_cases}
use Rattle.relations.proofs.Leads.{never_both, both_true}
use Rattle.sizing.specs.Worked.{lowest_where, links, join_to, may_join_in, next}
use Rattle.sizing.specs.Code.{Adjacent}
use Rattle.sizing.proofs.Found.{where_found, where_before, where_is}

-- Relation r is one end of join e, and the other end is in T.
abbrev pub Linked : Joins → (T r e : ℕ) → Type 0
Linked J T r e = ((first J e ≡ r) × (bit T (second J e) ≡ 1)) ⊎ ((second J e ≡ r) × (bit T (first J e) ≡ 1))

either : (a b : Bool) → (a || b) ≡ true → (a ≡ true) ⊎ (b ≡ true)
either true b e = inl refl
either false b e = inr e

both : (a x b : ℕ) → (eqb a x && eqb b 1) ≡ true → (a ≡ x) × (b ≡ 1)
both a x b e = let h = both_true (eqb a x) (eqb b 1) e in (eqb-true a x h.0, eqb-true b 1 h.1)

one_of : (a b : Bool) → (a ≡ true) ⊎ (b ≡ true) → (a || b) ≡ true
one_of true b h = refl
one_of false b (inl e) = absurd (cc)
one_of false b (inr e) = e

pub linked : (J : Joins) (T r e : ℕ) → links J T r e ≡ true → Linked J T r e
unfolding links
linked J T r e h = go (either _ _ h)
  where
    go : ((eqb (first J e) r && eqb (bit T (second J e)) 1) ≡ true) ⊎ ((eqb (second J e) r && eqb (bit T (first J e)) 1) ≡ true) → Linked J T r e
    go (inl p) = inl (both _ _ _ p)
    go (inr p) = inr (both _ _ _ p)

pub links_of : (J : Joins) (T r e : ℕ) → Linked J T r e → links J T r e ≡ true
unfolding links
links_of J T r e (inl (p, q)) = one_of (eqb (first J e) r && eqb (bit T (second J e)) 1) _ (inl (cc (eq-eqb _ _ p, eq-eqb _ _ q)))
links_of J T r e (inr (p, q)) = one_of (eqb (first J e) r && eqb (bit T (second J e)) 1) _ (inr (cc (eq-eqb _ _ p, eq-eqb _ _ q)))

-- Adjacent to some of T is adjacent to T; adjacent to T and another relation is adjacent to one of them.
linked_more : (J : Joins) (A B r e : ℕ) → Sub A B → Linked J A r e → Linked J B r e
linked_more J A B r e s (inl (p, q)) = inl (p, omega (arith, s (second J e), bit_le B (second J e)))
linked_more J A B r e s (inr (p, q)) = inr (p, omega (arith, s (first J e), bit_le B (first J e)))

pub links_more : (J : Joins) (A B r e : ℕ) → Sub A B → links J A r e ≡ true → links J B r e ≡ true
links_more J A B r e s h = links_of J B r e (linked_more J A B r e s (linked J A r e h))

pub adjacent_more : (J : Joins) (A B r : ℕ) → Sub A B → Adjacent J A r → Adjacent J B r
adjacent_more J A B r s (e, l, h) = (e, l, links_more J A B r e s h)

module _ (J : Joins) (T c : ℕ) (out : bit T c ≡ 0) where
  here : (x : ℕ) → bit (T + 2 ^ c) x ≡ 1 → (bit T x ≡ 1) ⊎ (bit (2 ^ c) x ≡ 1)
  here x h = elim (more_cases T c out x h) [ inl p ↦ inl p | inr e ↦ inr (ap (bit (2 ^ c)) (sym e) ∙ bit_pow c) ]

  pub adjacent_either : (r : ℕ) → Adjacent J (T + 2 ^ c) r → Adjacent J T r ⊎ Adjacent J (2 ^ c) r
  adjacent_either r (e, l, h) = go (linked J (T + 2 ^ c) r e h)
    where
      first_by : first J e ≡ r → (bit T (second J e) ≡ 1) ⊎ (bit (2 ^ c) (second J e) ≡ 1) → Adjacent J T r ⊎ Adjacent J (2 ^ c) r
      first_by p (inl q) = inl (e, l, links_of J T r e (inl (p, q)))
      first_by p (inr q) = inr (e, l, links_of J (2 ^ c) r e (inl (p, q)))

      second_by : second J e ≡ r → (bit T (first J e) ≡ 1) ⊎ (bit (2 ^ c) (first J e) ≡ 1) → Adjacent J T r ⊎ Adjacent J (2 ^ c) r
      second_by p (inl q) = inl (e, l, links_of J T r e (inr (p, q)))
      second_by p (inr q) = inr (e, l, links_of J (2 ^ c) r e (inr (p, q)))

      go : Linked J (T + 2 ^ c) r e → Adjacent J T r ⊎ Adjacent J (2 ^ c) r
      go (inl (p, q)) = first_by p (here (second J e) q)
      go (inr (p, q)) = second_by p (here (first J e) q)

-- The join to a relation is one that links it, where there is one.
module _ (J : Joins) (T r : ℕ) where
  pub join_links : join_to J T r < J.count → links J T r (join_to J T r) ≡ true
  unfolding join_to
  join_links h = where_found (links J T r) J.count 0 (omega arith)

  pub join_in : Adjacent J T r → join_to J T r < J.count
  unfolding join_to
  join_in (e, l, h) = elim (dec_lt (lowest_where (links J T r) J.count 0) J.count) [
    | yes k ↦ k
    | no k ↦ absurd (never_both (links J T r e) h (where_before (links J T r) J.count 0 e (omega arith) (omega arith)))
  ]

-- A relation of S that is not taken and adjacent to those taken.
pub record Ready (J : Joins) (S T r : ℕ) : Type 0 where
  pub of_set : bit S r ≡ 1
  pub free : bit T r ≡ 0
  pub near : Adjacent J T r

pub ready : (J : Joins) (S T r : ℕ) → may_join_in J S T r ≡ true → Ready J S T r
unfolding may_join_in
ready J S T r h =
    let outer = both_true (eqb (bit S r) 1 && eqb (bit T r) 0) (ltb (join_to J T r) J.count) h in
    let inner = both_true (eqb (bit S r) 1) (eqb (bit T r) 0) outer.0 in
    let below = ltb-true (join_to J T r) J.count outer.1 in
    record {
      of_set = eqb-true (bit S r) 1 inner.0;
      free = eqb-true (bit T r) 0 inner.1;
      near = (join_to J T r, below, join_links J T r below);
    }

pub may_join_lem : (J : Joins) (S T r : ℕ) → Ready J S T r → may_join_in J S T r ≡ true
unfolding may_join_in
may_join_lem J S T r h =
    cc (eq-eqb _ _ h.of_set, eq-eqb _ _ h.free, lt-ltb (join_to J T r) J.count (join_in J T r h.near))

-- The relation that joins in next: it is ready, and no lower one is.
module _ (J : Joins) (n S T : ℕ) where
  pub next_ready : next J n S T < n → Ready J S T (next J n S T)
  unfolding next
  next_ready h = ready J S T _ (where_found (may_join_in J S T) n 0 (omega arith))

  pub next_least : (r : ℕ) → Ready J S T r → next J n S T ≤ r
  unfolding next
  next_least r h = elim (dec_lt r (lowest_where (may_join_in J S T) n 0)) [
    | yes l ↦ absurd (never_both (may_join_in J S T r) (may_join_lem J S T r h) (where_before (may_join_in J S T) n 0 r (omega arith) l))
    | no l ↦ omega arith
  ]

  pub next_is : (r : ℕ) → r < n → Ready J S T r → ((x : ℕ) → x < r → Ready J S T x → ⊥) → next J n S T ≡ r
  unfolding next
  next_is r l h none = where_is (may_join_in J S T) n r l (may_join_lem J S T r h) (λ x k t. none x k (ready J S T x t))
