-- What the answer of solve, over cells enough, makes of the definition of the report server's call.
use Rattle.std.proofs.Common.{Result}
use Prim.Native.Nat.{ℕ, ◌≤◌}
use mathlib.Core.Path.{◌≡◌}
use mathlib.Core.List.{List}
use Rattle.query.specs.declared.refusal.Refusal.{Refusal}
use Rattle.solver.specs.declared.Solution.{Solution}
use Rattle.planner.specs.State.{State}
use Rattle.planner.specs.Solve.{solving_of, solve, needed}
use Rattle.planner.specs.Code.{of_solve}
use Rattle.planner.proofs.Cells.{solve_enough}
use Rattle.fanchuki.specs.Served.{served, on_solved, on_standing}

-- Solve's answer, over cells enough.
pub by_solve :
    (s : State) (cells : ℕ) (b : Result Solution Refusal) (new out : List ℕ) → solving_of (of_solve b) new ≡ solve cells out s → needed s ≤ cells →
    served (on_solved (of_solve b)) new ≡ on_standing s out
by_solve s cells b new out solving enough = rw (← solve_enough cells out s enough, ← solving)
