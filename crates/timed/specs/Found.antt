-- How many plans so many solves of one query find.
use Rattle.std.specs.Prelude.{ℕ, List}
use Rattle.std.proofs.Math.Option.{none}
use Rattle.planner.specs.State.{State}
use Rattle.planner.specs.Load.{load}
use Rattle.planner.specs.Solve.{Answer, found, no_route, refused, solve_needed, blank}

-- As many as asked where a solve finds one, else none.
abbrev pub found_by : Answer → ℕ → ℕ
found_by (found c l t) times = times
found_by (no_route t) times = 0
found_by (refused k) times = 0

-- What a solve answers that has as many cells as it needs, and room for the longest plan.
abbrev pub answer_in : State → Answer
answer_in s = (solve_needed blank s).answer

-- The query is loaded once, on an empty planner.
unfoldable pub plans_found : List ℕ → ℕ → ℕ
plans_found file times = found_by (answer_in (load file none).next) times
