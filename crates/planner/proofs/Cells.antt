-- The areas that solve needs: that the code works out the cells from what the load counted, that more cells change nothing and fewer are refused, and
-- what solve comes to with enough.
use Rattle.std.proofs.Common.{Option, Some, None}
use Prim.Native.Nat.{ℕ, ◌+◌, ◌*◌, ◌≤◌}
use native.Mathlib.Omega.{arith}
use mathlib.Core.Path.{◌≡◌, refl, sym, ◌∙◌}
use mathlib.Core.List.{List, ◌++◌}
use mathlib.Core.Option.{none, some}
use lib.ListN.{length, drop}
use lib.Dec.{ltb}
use mir.Syntax.{w64}
use mir.Val.{Fits}
use borrow.Author.Tests.{lt-ltb, le-ltb}
use Rattle.query.specs.declared.Query.{Query}
use Rattle.query.specs.Cost.{Cost}
use Rattle.query.specs.Query.{sites_of}
use Rattle.query.proofs.Choice.{pick_all}
use Rattle.tables.specs.Tables.{cheapest}
use Rattle.tables.specs.Written.{written}
use Rattle.tables.specs.Work.{cells_needed, most_cells}
use Rattle.tables.proofs.Work.{most_cells_lem}
use Rattle.planner.specs.declared.Planner.{Planner}
use Rattle.planner.specs.declared.Standing.{Standing}
use Rattle.planner.specs.State.{State}
use Rattle.planner.specs.Solve.{found, refused, Solving, solving_of, writing, solved, solve, needed, solve_needed, EnoughLaw}
use Rattle.planner.specs.Code.{stands_in, state_of}

-- The code's constant `CELLS`.
abbrev pub ample_cells : ℕ
ample_cells = most_cells

-- What the code multiplies is the need, which is no more than the most.
pub need_fits : (s : Standing) → Fits w64 (s.subqueries * sites_of s.query)
unfolding cells_needed
need_fits s =
    let same : s.subqueries * sites_of s.query ≡ cells_needed s.query = rw s.counted in
    record { fits = omega (arith, same, most_cells_lem s.query s.valid) }

-- So many are enough whatever stands.
stands_most : (o : Option Standing) → needed (stands_in o) ≤ ample_cells
stands_most None = omega arith
stands_most (Some s) = most_cells_lem s.query s.valid

pub needed_enough : (p : Planner) (n : ℕ) → ample_cells ≤ n → needed (state_of p) ≤ n
needed_enough p n h = omega (arith, stands_most p.standing)

-- With cells enough solve comes to what the query costs.
pub solve_is : (s : State) (q : Query) (n : ℕ) (out : List ℕ) → s ≡ some q → cells_needed q ≤ n → solve n out s ≡ solved q (cheapest ◌+◌ q) out
unfolding solve
solve_is s q n out e h = rw (e, le-ltb n (cells_needed q) h)

pub solve_needed_lem : (q : Query) (out : List ℕ) → solve_needed out (some q) ≡ solved q (cheapest ◌+◌ q) out
solve_needed_lem q out = solve_is (some q) q (cells_needed q) out refl (omega arith)

-- So cells past the needed ones change neither the answer nor the output.
pub solve_enough : (n : ℕ) (out : List ℕ) (s : State) → needed s ≤ n → solve n out s ≡ solve_needed out s
unfolding solve
solve_enough n out none h = refl
solve_enough n out (some q) h = solve_is (some q) q n out refl h ∙ sym (solve_needed_lem q out)

-- What it comes to is no refusal 21.
solved_goes : (q : Query) (c : Cost) (out : List ℕ) → (solved q c out).answer ≡ refused 21 → ⊥
solved_goes q Cost.none out = λ e. absurd (let z : ◌≡◌ {A = ℕ} 0 1 = cc in omega arith)
solved_goes q (Cost.some c) out =
    pick_all (λ (x : Solving). x.answer ≡ refused 21 → ⊥) (ltb (length out) (length (written ◌+◌ q))) _ _
    (λ f e. absurd (let z : ◌≡◌ {A = ℕ} 23 21 = cc in omega arith))
    (λ f e. absurd (let z : ◌≡◌ {A = ℕ} 0 1 = cc in omega arith))

enough_goes : (n : ℕ) (out : List ℕ) (s : State) → needed s ≤ n → (solve n out s).answer ≡ refused 21 → ⊥
unfolding solve
enough_goes n out none h e = absurd (let z : ◌≡◌ {A = ℕ} 20 21 = cc in omega arith)
enough_goes n out (some q) h e = solved_goes q (cheapest ◌+◌ q) out (rw (le-ltb n (cells_needed q) h) at e)

pub enough_law : EnoughLaw
unfolding solve
enough_law = record {
  beyond = solve_enough;
  as_of_all = λ out q valid. sym (solve_enough 4_096 out (some q) (omega (arith, most_cells_lem q valid)));
  fewer = λ n out q h. rw (lt-ltb n (cells_needed q) h);
  as_many = enough_goes;
}

-- A plan that fits is written.
pub writing_fits :
    (c t : ℕ) (plan out : List ℕ) → length plan ≤ length out → writing c t plan out ≡ solving_of (found c (length plan) t) (plan ++ drop (length plan) out)
writing_fits c t plan out h = rw (le-ltb (length out) (length plan) h)
