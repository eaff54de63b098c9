-- What a subquery is, whichever relation one starts from: a set below 2^n that is not empty, and that every closed set with one of its
-- relations holds whole. The test grows from the lowest relation; from another it gives the same, since what is not reached is closed too.
use Prim.Native.Nat.{ℕ, zero, suc, ◌+◌, ◌-◌, ◌^◌, ◌≤◌, ◌<◌}
use mathlib.Core.Path.{◌≡◌, refl, ap, ◌∙◌, subst}
use mathlib.Core.Bool.{◌&&◌}
use mathlib.Core.Logic.{inl, inr}
use native.Mathlib.Omega.{arith}
use lib.Bits.{bit_and}
use lib.Count.{ones, ones-le}
use lib.Dec.{eqb, ltb}
use lib.Pow.{pow_pos}
use borrow.Author.Tests.{eqb-true, eq-eqb, ltb-true, lt-ltb}
use Rattle.relations.specs.declared.Joins.{Joins}
use Rattle.relations.specs.Sets.{bit, Sub, all, lowest}
use Rattle.relations.specs.Growth.{first, second, grow, Closed}
use Rattle.relations.specs.Trees.{is_subquery, Subquery, reaches, Tree}
use Rattle.relations.proofs.Bits.{bit_le, bit_less, bit_pow, bit_all, le_of_sub, sub_single, sub_antisym, pow_cases}
use Rattle.relations.proofs.Counts.{lowest_in}
use Rattle.relations.proofs.Leads.{both_true}
use Rattle.relations.proofs.Growth.{grow_has, grow_within, grow_least, grow_closed}

-- S has a relation, and a closed set with one of its relations holds all of them.
pub record Conn (J : Joins) (S : ℕ) : Type 0 where
  pub some : ℕ
  pub some_in : bit S some ≡ 1
  pub whole : (A : ℕ) → Closed J S J.count A → (r : ℕ) → bit S r ≡ 1 → bit A r ≡ 1 → Sub S A

pub conn_pos : (J : Joins) (S : ℕ) → Conn J S → 0 < S
conn_pos J S c = omega (arith, le_of_sub (2 ^ c.some) S (sub_single S c.some c.some_in), pow_pos c.some)

-- A set that some relation of it grows to is connected.
pub conn_seed : (J : Joins) (S k r : ℕ) → bit S r ≡ 1 → grow J S J.count k (2 ^ r) ≡ S → Conn J S
conn_seed J S k r here e = record { some = r; some_in = here; whole = λ A c q p h. go A c q p h (bit A r) refl }
  where
    all_of : (A : ℕ) → Closed J S J.count A → bit A r ≡ 1 → Sub S A
    all_of A c h = subst (λ (B : ℕ). Sub B A) e (grow_least J S J.count k (2 ^ r) A c (sub_single A r h))

    go : (A : ℕ) → Closed J S J.count A → (q : ℕ) → bit S q ≡ 1 → bit A q ≡ 1 → (b : ℕ) → bit A r ≡ b → Sub S A
    go A c q p h (suc b) at = all_of A c (omega (arith, at, bit_le A r))
    go A c q p h zero at =
        let out : Closed J S J.count (S - bit_and S A) = λ i l d f g. omega (arith, c i l d f g, bit_less S A (first J i), bit_less S A (second J i)) in
        let held = all_of (S - bit_and S A) out (omega (arith, here, at, bit_less S A r)) q in
        absurd (omega (arith, held, p, h, bit_less S A q))

-- n steps are enough to grow from one relation within a set below 2^n.
pub enough : (n S r : ℕ) → S < 2 ^ n → ones S ≤ ones (2 ^ r) + n
enough n S r h = omega (arith, ones-le n S h)

-- Growth from any relation of a connected set gives that set.
pub conn_grow : (J : Joins) (n S r : ℕ) → S < 2 ^ n → Conn J S → bit S r ≡ 1 → grow J S J.count n (2 ^ r) ≡ S
conn_grow J n S r h c here =
    let seed = sub_single S r here in
    sub_antisym (grow J S J.count n (2 ^ r)) S (grow_within J S J.count n (2 ^ r) seed)
    (c.whole (grow J S J.count n (2 ^ r)) (grow_closed J S J.count n (2 ^ r) seed (enough n S r h)) r here
    (omega (arith, grow_has J S J.count n (2 ^ r) r, bit_pow r, bit_le (grow J S J.count n (2 ^ r)) r)))

-- The test and its meaning.
pub subquery_range : (J : Joins) (n S : ℕ) → Subquery J n S → (0 < S) × (S < 2 ^ n)
unfolding is_subquery
subquery_range J n S h =
    let outer = both_true (ltb 0 S && ltb S (2 ^ n)) (eqb (grow J S J.count n (2 ^ lowest n S)) S) h in
    let inner = both_true (ltb 0 S) (ltb S (2 ^ n)) outer.0 in
    (ltb-true 0 S inner.0, ltb-true S (2 ^ n) inner.1)

pub conn_of : (J : Joins) (n S : ℕ) → Subquery J n S → Conn J S
unfolding is_subquery
conn_of J n S h =
    let range = subquery_range J n S h in
    let outer = both_true (ltb 0 S && ltb S (2 ^ n)) (eqb (grow J S J.count n (2 ^ lowest n S)) S) h in
    conn_seed J S n (lowest n S) (lowest_in n S range.0 range.1) (eqb-true (grow J S J.count n (2 ^ lowest n S)) S outer.1)

pub of_conn : (J : Joins) (n S : ℕ) → S < 2 ^ n → Conn J S → Subquery J n S
unfolding is_subquery
of_conn J n S h c =
    let some = conn_pos J S c in
    cc (lt-ltb 0 S some, lt-ltb S (2 ^ n) h, eq-eqb (grow J S J.count n (2 ^ lowest n S)) S (conn_grow J n S (lowest n S) h c (lowest_in n S some h)))

-- One relation is connected, and so are all relations of a tree.
pub conn_single : (J : Joins) (r : ℕ) → Conn J (2 ^ r)
conn_single J r = record { some = r; some_in = bit_pow r; whole = λ A c q p h. sub_single A r (at A q p h) }
  where
    at : (A q : ℕ) → bit (2 ^ r) q ≡ 1 → bit A q ≡ 1 → bit A r ≡ 1
    at A q p h = elim (pow_cases r q) [ inl (e, one) ↦ ap (bit A) e ∙ h | inr none ↦ omega arith ]

pub conn_all : (J : Joins) (n : ℕ) → Tree J n → Conn J (all n)
unfolding reaches
conn_all J n t = conn_seed J (all n) n 0 (bit_all n 0 (omega (arith, t.joins))) (eqb-true (grow J (all n) J.count n (2 ^ 0)) (all n) t.reached)
