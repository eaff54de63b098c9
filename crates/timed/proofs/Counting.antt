-- One more solve counts one plan more, or none: each solve answers the same, whatever the one before it wrote.
use Rattle.std.proofs.Common.{Result}
use Prim.Native.Nat.{ℕ, ◌+◌}
use native.Mathlib.Omega.{arith}
use mathlib.Core.Path.{◌≡◌, refl, ap, ◌∙◌}
use mathlib.Core.List.{List}
use lib.ListN.{length}
use Rattle.planner.specs.declared.Planner.{Planner}
use Rattle.query.specs.declared.refusal.Refusal.{Refusal}
use Rattle.solver.specs.declared.Solution.{Solution}
use Rattle.planner.specs.Solve.{Answer, found, no_route, refused, Solving, solving_of, solve, blank}
use Rattle.planner.specs.Code.{state_of, of_solve}
use Rattle.planner.proofs.Cells.{ample_cells, needed_enough, solve_enough}
use Rattle.planner.proofs.Again.{solve_again}
use Rattle.timed.specs.Found.{found_by, answer_in}

one_more : (a : Answer) (i : ℕ) → found_by a i + found_by a 1 ≡ found_by a (i + 1)
one_more (found c l t) i = refl
one_more (no_route t) i = refl
one_more (refused k) i = refl

-- A turn, over cells enough and an output with room for the longest plan.
module _
    (p : Planner) (a : Result Solution Refusal) (n : ℕ) (out new : List ℕ) (solving : solving_of (of_solve a) new ≡ solve n out (state_of p))
    (many : n ≡ ample_cells) (room : length out ≡ length blank)
  where
    as_defined : of_solve a ≡ answer_in (state_of p)
    as_defined =
        ap (λ (x : Solving). x.answer) solving ∙ solve_again out blank room n (state_of p)
        ∙ ap (λ (x : Solving). x.answer) (solve_enough n blank (state_of p) (needed_enough p n (omega arith)))

    pub counted_more :
        (count r i : ℕ) → count ≡ found_by (answer_in (state_of p)) i → r ≡ found_by (of_solve a) 1 → count + r ≡ found_by (answer_in (state_of p)) (i + 1)
    counted_more count r i counted one = rw (counted, one, as_defined) (one_more (answer_in (state_of p)) i)
