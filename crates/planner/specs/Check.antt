-- Check, with a lent plan: answers the cost; the state stays. Refusals 20, then those of the plan.
use Rattle.std.specs.Prelude.{ℕ, ◌+◌, List}
use Rattle.std.proofs.Math.Option.{none, some}
use Rattle.rules.specs.Allowed.{Verdict, accepted, rejected, checked}
use Rattle.planner.specs.State.{State}

-- What check answers. A refusal has its number and its place: the step from 0 for 8 to 11, the count for 12; else 0.
pub data Answer : Type 0 where
  allowed : (cost : ℕ) → Answer
  refused : (number place : ℕ) → Answer

abbrev pub judged : Verdict → Answer
judged (accepted c) = allowed c
judged (rejected k place) = refused k place

unfoldable pub check : List ℕ → State → Answer
check plan none = refused 20 0
check plan (some q) = judged (checked ◌+◌ q plan)
