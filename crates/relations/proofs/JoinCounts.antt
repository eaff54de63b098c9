-- How many joins a set has. In a tree a set that is not empty has fewer joins than relations, since growth from it to all relations takes a join
-- for each relation more; a connected set has at least one join for each relation but one, since it grows from one relation.
use Prim.Native.Nat.{ℕ, zero, suc, ◌+◌, ◌^◌, ◌≤◌, ◌<◌}
use mathlib.Core.Path.{◌≡◌, refl, subst}
use mathlib.Core.Bool.{Bool, true, false}
use native.Mathlib.Omega.{arith}
use lib.Count.{ones, ones-ones}
use borrow.Author.Tests.{eqb-false}
use Rattle.relations.specs.declared.Joins.{Joins}
use Rattle.relations.specs.Sets.{bit, all, lowest}
use Rattle.relations.specs.Growth.{first, second, inside, grow}
use Rattle.relations.specs.Trees.{Tree, Subquery, joins_in}
use Rattle.relations.proofs.Bits.{bit_le, sub_all}
use Rattle.relations.proofs.Counts.{ones_pow, ones_mono, lowest_in}
use Rattle.relations.proofs.Leads.{inside_ends}
use Rattle.relations.proofs.Growth.{grow_has, grow_closed}
use Rattle.relations.proofs.Connected.{conn_of, conn_all, conn_grow, subquery_range}
use Rattle.relations.proofs.Trees.{held, held_both, held_less, held_one, grow_counts}
use Rattle.relations.proofs.Sums.{sum, sum_le, sum_ones}

pub joins_sum : (J : Joins) (S m : ℕ) → m ≤ J.count → joins_in J S m ≡ sum m (held J J.count S)
unfolding joins_in sum inside
joins_sum J S zero l = refl
joins_sum J S (suc m) l = go (inside J S m) refl (joins_sum J S m (omega arith))
  where
    go : (b : Bool) → inside J S m ≡ b → joins_in J S m ≡ sum m (held J J.count S)
        → ◌≡◌ {A = ℕ} (elim b [ true ↦ suc (joins_in J S m) | false ↦ joins_in J S m ]) (sum m (held J J.count S) + held J J.count S m)
    go true h e = let ends = inside_ends J S m h in omega (arith, held_both J J.count S m ends.0 ends.1 (λ q. omega arith), e)
    go false h e =
        let not_both = eqb-false (bit S (first J m) + bit S (second J m)) 2 h in
        omega (arith, held_less J J.count S m (omega (arith, bit_le S (first J m), bit_le S (second J m))), e)

-- A set that has a join has one.
pub some_of_joins : (J : Joins) (S m : ℕ) → 0 < joins_in J S m → (e : ℕ) × (e < m) × (inside J S e ≡ true)
unfolding joins_in
some_of_joins J S zero h = absurd (omega arith)
some_of_joins J S (suc m) h = go (inside J S m) refl h (some_of_joins J S m)
  where
    go : (b : Bool) → inside J S m ≡ b → ◌<◌ 0 (elim b [ true ↦ suc (joins_in J S m) | false ↦ joins_in J S m ])
        → (0 < joins_in J S m → (e : ℕ) × (e < m) × (inside J S e ≡ true)) → (e : ℕ) × (e < suc m) × (inside J S e ≡ true)
    go true p h lower = (m, omega arith, p)
    go false p h lower = let found = lower h in (found.0, omega (arith, found.1), found.2)

pub joins_fewer : (J : Joins) (n : ℕ) → Tree J n → (S : ℕ) → S < 2 ^ n → 0 < S → joins_in J S J.count + 1 ≤ ones S
joins_fewer J n t S h p =
    let grown = grow J (all n) J.count n S in
    let r = lowest n S in
    let seed = sub_all S n h in
    let here = lowest_in n S p h in
    let closed = grow_closed J (all n) J.count n S seed (omega (arith, ones-ones n)) in
    let held_All = (conn_all J n t).whole grown closed r (omega (arith, seed r, bit_le (all n) r)) (omega (arith, grow_has J (all n) J.count n S r, bit_le grown r)) in
    let most = sum_le J.count (held J J.count grown) (λ i. 1) (λ i l. held_one J J.count grown i) in
    omega (arith, joins_sum J S J.count (omega arith), grow_counts J (all n) J.count n S, ones_mono (all n) grown held_All, ones-ones n, most, sum_ones J.count, t.joins)

pub joins_enough : (J : Joins) (n S : ℕ) → Subquery J n S → ones S ≤ joins_in J S J.count + 1
joins_enough J n S s =
    let range = subquery_range J n S s in
    let r = lowest n S in
    let same = conn_grow J n S r range.1 (conn_of J n S s) (lowest_in n S range.0 range.1) in
    omega (
      arith,
      joins_sum J S J.count (omega arith),
      subst (λ (A : ℕ). sum J.count (held J J.count (2 ^ r)) + ones A ≤ sum J.count (held J J.count A) + ones (2 ^ r)) same (grow_counts J S J.count n (2 ^ r)),
      ones_pow r,
    )

pub joins_count : (J : Joins) (n : ℕ) → Tree J n → (S : ℕ) → Subquery J n S → joins_in J S J.count + 1 ≡ ones S
joins_count J n t S s =
    let range = subquery_range J n S s in omega (arith, joins_fewer J n t S range.1 range.0, joins_enough J n S s)
