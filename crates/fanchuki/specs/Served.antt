-- The report server's call: on a planner of its own it loads and solves, in that order, from query bytes to output bytes.
-- It returns the plan's length, 0 for no route, or 1,024 plus the refusal.
use Rattle.std.specs.Prelude.{ℕ, ◌+◌, ◌≤◌, ◌<◌, List, length}
use Rattle.std.proofs.Math.Option.{none}
use Rattle.rules.specs.Allowed.{longest_plan}
use Rattle.planner.specs.State.{State}
use Rattle.planner.specs.Load as Load
use Rattle.planner.specs.Solve as Solve

-- The number that it returns, and the output as it leaves it.
pub record Served : Type 0 where
  pub number : ℕ
  pub output : List ℕ

abbrev pub served : ℕ → List ℕ → Served
served n out = record { number = n; output = out }

-- What stands for a refusal: above the length of every plan.
abbrev pub refused_from : ℕ
refused_from = 1_024

abbrev pub refusal : ℕ → ℕ
refusal k = refused_from + k

-- Solve is the last: the plan's length, 0 for no route, or the refusal.
abbrev pub on_solved : Solve.Answer → ℕ
on_solved (Solve.found c l t) = l
on_solved (Solve.no_route t) = 0
on_solved (Solve.refused k) = refusal k

-- What stands is solved with as many cells as it needs.
abbrev pub on_standing : State → List ℕ → Served
on_standing s out = served (on_solved (Solve.solve_needed out s).answer) (Solve.solve_needed out s).output

-- A query that was loaded is solved; a refusal ends the call, and the output stays.
abbrev pub on_loaded : Load.Answer → State → List ℕ → Served
on_loaded (Load.loaded n m) s out = on_standing s out
on_loaded (Load.refused k) s out = served (refusal k) out

-- The call: on an empty planner.
unfoldable pub serve : List ℕ → List ℕ → Served
serve query out = on_loaded (Load.load query none).answer (Load.load query none).next out

-- Which numbers it returns, for an output of so many bytes: none can be taken for another, since a refusal's is above every length, and an output with
-- room for the longest plan is never too short.
pub data Number (bytes : ℕ) : ℕ → Type 0 where
  plan : (l : ℕ) → 1 ≤ l → l ≤ longest_plan → Number bytes l
  no_route : Number bytes 0
  of_the_file : (k : ℕ) → 1 ≤ k → k ≤ 5 → longest_plan < refusal k → Number bytes (refusal k)
  short_output : bytes < longest_plan → longest_plan < refusal 23 → Number bytes (refusal 23)

abbrev pub EveryNumber : Type 0
EveryNumber = (query out : List ℕ) → Number (length out) (serve query out).number
