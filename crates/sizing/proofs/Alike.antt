-- Two subqueries whose first steps are alike have the same relations taken, and the same size, as far as that goes. So it is with what a subquery has
-- taken after some steps, as a subquery by itself: the worked size of a subquery is one step from that of the one without its last relation.
use Prim.Native.Nat.{ℕ, zero, suc, ◌≤◌, ◌<◌}
use native.Mathlib.Omega.{arith}
use mathlib.Core.Path.{◌≡◌, ap, ◌∙◌}
use mathlib.Core.List.{List}
use lib.Count.{ones}
use Rattle.relations.specs.declared.Joins.{Joins}
use Rattle.relations.specs.Sets.{bit, lowest}
use Rattle.relations.specs.Trees.{Tree, Subquery}
use Rattle.relations.proofs.Bits.{bit_le, bit_more, bit_pow}
use Rattle.relations.proofs.Counts.{lowest_least, lowest_is}
use Rattle.relations.proofs.Connected.{subquery_range}
use Rattle.sizing.specs.Worked.{next, taken_after, size_after}
use Rattle.sizing.proofs.Adjacent.{next_least, next_is}
use Rattle.sizing.proofs.Steps.{taken_upto, at, step_from}

-- The first k steps of B are those of A.
pub record Alike (J : Joins) (n A B k : ℕ) : Type 0 where
  pub root : lowest n B ≡ lowest n A
  pub each : (j : ℕ) → j < k → next J n B (taken_after J n A j) ≡ next J n A (taken_after J n A j)

module _ (J : Joins) (n A B k : ℕ) (same : Alike J n A B k) where
  pub alike_taken : (j : ℕ) → j ≤ k → taken_after J n B j ≡ taken_after J n A j
  unfolding taken_after
  alike_taken zero h = rw same.root
  alike_taken (suc j) h = rw (alike_taken j (omega arith), same.each j (omega arith))

  pub alike_size : (rows divisors : List ℕ) (j : ℕ) → j ≤ k → size_after J n rows divisors B j ≡ size_after J n rows divisors A j
  unfolding size_after
  alike_size rows divisors zero h = rw same.root
  alike_size rows divisors (suc j) h = rw (alike_size rows divisors j (omega arith), alike_taken j (omega arith), same.each j (omega arith))

module _ (J : Joins) (n : ℕ) (t : Tree J n) (S : ℕ) (s : Subquery J n S) (k : ℕ) (h : k < ones S) where
  front : ℕ
  front = taken_after J n S k

  -- Its lowest relation is that of S.
  pub front_root : lowest n (taken_after J n S k) ≡ lowest n S
  front_root =
      let a = at J n t S s k h in
      lowest_is n (taken_after J n S k) (lowest n S) (subquery_range J n (taken_after J n S k) a.connected).1 a.root
      (λ x m. lowest_least n S x (omega (arith, a.within x, bit_le S x)))

  -- What joins in before step k is in front.
  pub joined_before : (j : ℕ) → j < k → bit (taken_after J n S k) (next J n S (taken_after J n S j)) ≡ 1
  joined_before j l =
      let m = step_from J n t S s j (omega arith) in
      let T = taken_after J n S j in
      let r = next J n S T in
      let in-next : bit (taken_after J n S (suc j)) r ≡ 1 =
      ap (λ (x : ℕ). bit x r) m.sum ∙ omega (arith, bit_more T r m.is_ready.free r, bit_pow r, m.is_ready.free) in
      omega (arith, taken_upto J n S (suc j) k l r, bit_le (taken_after J n S k) r)

  pub front_alike : Alike J n S (taken_after J n S k) k
  front_alike = record {
    root = front_root;
    each = λ j l.
        let m = step_from J n t S s j (omega arith) in
        let a = at J n t S s k h in
        let T = taken_after J n S j in
        next_is J n (taken_after J n S k) T (next J n S T) m.low (record { of_set = joined_before j l; free = m.is_ready.free; near = m.is_ready.near })
        (λ x below r.
        omega (arith, next_least J n S T x (record { of_set = omega (arith, a.within x, r.of_set, bit_le S x); free = r.free; near = r.near })));
  }
