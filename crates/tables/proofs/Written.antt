-- The written plan's own equation. Where the tables have a number, the number of rounds does not matter once it is enough: the best join's
-- parts have numbers too, and fewer relations.
use Prim.Native.Nat.{ℕ, zero, suc, ◌≤◌, ◌<◌}
use mathlib.Core.Path.{◌≡◌, sym, ap}
use mathlib.Core.Logic.{◌⊎◌, inl, inr}
use mathlib.Core.List.{List, ◌++◌}
use lib.Count.{ones}
use native.Mathlib.Nat.{eq-or-lt_of_le}
use native.Mathlib.Omega.{arith}
use borrow.Author.Tests.{eq-eqb, ne_eqb}
use Rattle.relations.specs.Trees.{Subquery}
use Rattle.query.specs.declared.Query.{Query}
use Rattle.query.specs.Cost.{some}
use Rattle.query.specs.Query.{Valid, relations_of}
use Rattle.tables.specs.Tables.{first_part, other_part, delivered, joined}
use Rattle.tables.specs.Written.{sends_due, best_site, best_join, joined_steps, delivered_steps, steps_up_to, written_delivered, written_joined}
use Rattle.tables.specs.Theorems.{WrittenIs}
use Rattle.tables.proofs.Tables.{ones_some, ones_most, BySite, ByJoin, delivered_found, joined_found}
use Rattle.rules.specs.Machine.{Step}

module _ (combine : ℕ → ℕ → ℕ) (q : Query) (v : Valid q) where
  -- Steps that are equal for smaller subqueries with a number at k.
  abbrev SameBelow : (D E : ℕ → ℕ → List Step) (S k : ℕ) → Type 0
  SameBelow D E S k = (P x : ℕ) → Subquery q.joins (relations_of q) P → ones P < ones S → delivered combine q P k ≡ some x → D P k ≡ E P k

  joined_steps_same : (D E : ℕ → ℕ → List Step) (S k c : ℕ) → Subquery q.joins (relations_of q) S → joined combine q S k ≡ some c → SameBelow D E S k →
      joined_steps combine D q S k ≡ joined_steps combine E q S k
  unfolding joined_steps
  joined_steps_same D E S k c s number same =
      let e : ℕ = best_join combine q S k in
      let join : ByJoin combine q v S k e c = joined_found combine q v S k c s number in
      rw (
        same (first_part q S e) join.one join.parts.first_part join.smaller.first_fewer join.one_is,
        same (other_part q S e) join.other join.parts.second_part join.smaller.second_fewer join.other_is,
      )

  delivered_steps_same : (D E : ℕ → ℕ → List Step) (S t c : ℕ) → Subquery q.joins (relations_of q) S → delivered combine q S t ≡ some c →
      ((k : ℕ) → SameBelow D E S k) → delivered_steps combine (joined_steps combine D q S) q S t ≡ delivered_steps combine (joined_steps combine E q S) q S t
  unfolding delivered_steps
  delivered_steps_same D E S t c s number same = go (eq-or-lt_of_le (ones_some q v S s))
    where
      go : (1 ≡ ones S) ⊎ (1 < ones S) → delivered_steps combine (joined_steps combine D q S) q S t ≡ delivered_steps combine (joined_steps combine E q S) q S t
      go (inl one) = rw (eq-eqb (ones S) 1 (sym one))
      go (inr more) =
          let k : ℕ = best_site combine q S t in
          let site : BySite combine q v S t k c = delivered_found combine q v S t c s more number in
          rw (ne_eqb (ones S) 1 (λ h. omega arith))
          (ap (λ (xs : List Step). xs ++ sends_due q S k t) (joined_steps_same D E S k site.sum.one s site.sum.one_is (same k)))

  steps_same : (f g S t c : ℕ) → Subquery q.joins (relations_of q) S → ones S ≤ f → ones S ≤ g → delivered combine q S t ≡ some c →
      steps_up_to combine q f S t ≡ steps_up_to combine q g S t
  unfolding steps_up_to
  steps_same zero g S t c s l m number = absurd (omega (arith, ones_some q v S s))
  steps_same (suc f) zero S t c s l m number = absurd (omega (arith, ones_some q v S s))
  steps_same (suc f) (suc g) S t c s l m number =
      delivered_steps_same (steps_up_to combine q f) (steps_up_to combine q g) S t c s number
      (λ k P x p fewer h. steps_same f g P k x p (omega arith) (omega arith) h)

pub written_is : WrittenIs
unfolding written_delivered written_joined steps_up_to
written_is combine q v S t c s number =
    let most = ones_most q v S s in
    steps_same combine q v (relations_of q) (suc (relations_of q)) S t c s most (omega arith) number
