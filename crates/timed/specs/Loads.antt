-- Whether a plan is found after so many loads of one file.
use Rattle.std.specs.Prelude.{ℕ, zero, suc, List}
use Rattle.std.proofs.Math.Option.{none}
use Rattle.planner.specs.State.{State}
use Rattle.planner.specs.Done.{Done}
use Rattle.planner.specs.Load.{Answer}
use Rattle.timed.specs.Found.{found_by, answer_in}

-- What stands after so many loads, each in the state that the one before left. At first nothing stands.
unfoldable pub standing : (List ℕ → State → Done Answer) → List ℕ → ℕ → State
standing by file zero = none
standing by file (suc k) = (by file (standing by file k)).next

-- 1 where the solve after the last load finds a plan, else 0.
abbrev pub plan_after : (List ℕ → State → Done Answer) → List ℕ → ℕ → ℕ
plan_after by file times = found_by (answer_in (standing by file times)) 1
