-- Solve is admitted exactly where it answers no refusal: its tests are those of the definition, one after the other.
use Prim.Native.Nat.{ℕ, ◌+◌}
use native.Mathlib.Omega.{arith}
use mathlib.Core.Path.{◌≡◌, refl}
use mathlib.Core.Logic.{◌↔◌}
use mathlib.Core.Bool.{Bool, true, false}
use mathlib.Core.List.{List}
use mathlib.Core.Option.{none, some}
use lib.ListN.{length}
use lib.Dec.{ltb, leb}
use borrow.Author.Tests.{ltb-true, ltb-false, le-leb, lt-leb}
use Rattle.query.specs.declared.Query.{Query}
use Rattle.query.specs.Choice.{pick}
use Rattle.query.specs.Cost.{Cost}
use Rattle.query.proofs.Choice.{pick_all}
use Rattle.tables.specs.Tables.{cheapest}
use Rattle.tables.specs.Written.{written}
use Rattle.tables.specs.Work.{cells_needed}
use Rattle.planner.specs.Solve.{Answer, refused, Solving, solving_of, solved, solve, has_room, solve_admitted, AdmittedLaw}

abbrev NotRefused : Answer → Type 0
NotRefused a = (k : ℕ) → a ≡ refused k → ⊥

-- A test that refuses k, or goes on.
tested :
    (n m k : ℕ) (out : List ℕ) (x : Solving) (a : Bool) → (leb m n ≡ true → (a ≡ true) ↔ NotRefused x.answer) → (leb m n ≡ false → a ≡ false) →
    (a ≡ true) ↔ NotRefused (pick (ltb n m) (solving_of (refused k) out) x).answer
tested n m k out x a goes_on refuses =
    pick_all (λ (y : Solving). (a ≡ true) ↔ NotRefused y.answer) (ltb n m) _ x
    (λ e. let f = refuses (lt-leb m n (ltb-true n m e)) in
    ((λ h. absurd (let z : ◌≡◌ {A = ℕ} 0 1 = cc in omega arith)), λ h. absurd (h k refl)))
    (λ e. goes_on (le-leb m n (ltb-false n m e)))

solved_law : (q : Query) (c : Cost) (out : List ℕ) → (has_room q c (length out) ≡ true) ↔ NotRefused (solved q c out).answer
solved_law q Cost.none out = ((λ h k e. absurd (let z : ◌≡◌ {A = ℕ} 0 1 = cc in omega arith)), λ h. refl)
solved_law q (Cost.some c) out =
    let l = length (written ◌+◌ q) in
    tested (length out) l 23 out _ (leb l (length out)) (λ e. ((λ h k f. absurd (let z : ◌≡◌ {A = ℕ} 0 1 = cc in omega arith)), λ h. e)) (λ e. e)

pub admitted_law : AdmittedLaw
unfolding solve
admitted_law cells out none = ((λ h. absurd (let z : ◌≡◌ {A = ℕ} 0 1 = cc in omega arith)), λ h. absurd (h 20 refl))
admitted_law cells out (some q) =
    let c = cheapest ◌+◌ q in
    tested cells (cells_needed q) 21 out (solved q c out) (solve_admitted (some q) cells (length out)) (λ e. rw e (solved_law q c out)) (λ e. rw e)
