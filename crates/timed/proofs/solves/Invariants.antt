-- Each turn solves on the same planner, and counts what its solve finds.
use Prim.Native.Nat.{◌≤◌}
use mathlib.Core.Path.{◌≡◌}
use lib.ListN.{length}
use Rattle.planner.specs.Solve.{blank}
use Rattle.planner.specs.Code.{state_of}
use Rattle.planner.proofs.Cells.{ample_cells}
use Rattle.timed.specs.Found.{found_by, answer_in}
use Rattle.timed.proofs.solves.Given as goal

abbrev pub invariant-loop : goal.invariant-loop
invariant-loop l =
    (l.plans ≤ l.counter) × (length l.cells ≡ ample_cells) × (length l.output ≡ length blank) × (l.plans ≡ found_by (answer_in (state_of l.fn.p)) l.counter)
