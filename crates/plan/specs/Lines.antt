-- How many lines the listing of a query file has: one for the answer, and one for each step of a plan.
use Rattle.std.specs.Prelude.{ℕ, ◌+◌, ◌==◌, List, get_or, count_by}
use Rattle.std.proofs.Math.Option.{none}
use Rattle.planner.specs.State.{State}
use Rattle.planner.specs.Load as Load
use Rattle.planner.specs.Solve as Solve
use Rattle.plan.specs.declared.listing.Listing.{Listing}
use Rattle.plan.specs.Text.{text}

-- A plan that was found is listed: the first byte of the output counts its steps. No route and a refusal are one line.
abbrev pub on_solved : Solve.Answer → (output : List ℕ) → ℕ
on_solved (Solve.found c l t) output = 1 + get_or output 0 0
on_solved (Solve.no_route t) output = 1
on_solved (Solve.refused k) output = 1

-- The solve has as many cells as it needs, and room for the longest plan.
unfoldable pub lines_solved : State → ℕ
lines_solved s = on_solved (Solve.solve_needed Solve.blank s).answer (Solve.solve_needed Solve.blank s).output

-- A query that was loaded is solved; a refusal is one line.
abbrev pub on_loaded : Load.Answer → State → ℕ
on_loaded (Load.loaded n m) s = lines_solved s
on_loaded (Load.refused k) s = 1

-- The file is loaded on an empty planner.
unfoldable pub lines : List ℕ → ℕ
lines file = on_loaded (Load.load file none).answer (Load.load file none).next

-- How many line ends (`\n`, byte 10) a text has.
unfoldable pub line_ends : List ℕ → ℕ
line_ends bytes = count_by (λ b. b == 10) bytes

-- How many lines the code's listing has: the line ends of the text that is printed of it.
abbrev pub lines_of : Listing → ℕ
lines_of l = line_ends (text l)
