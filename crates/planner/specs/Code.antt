-- How the code's planner and answers stand for the rules': a number and values for each case of an answer (rule 12.3).
use Rattle.std.specs.Prelude.{◌≡◌, Option, Some, None, Result, Ok, Err}
use Rattle.std.proofs.Math.Option.{none, some}
use Rattle.query.specs.declared.Charge.{Charge}
use Rattle.query.specs.declared.refusal.Refusal.{Refusal}
use Rattle.query.specs.Query.{Valid}
use Rattle.query.specs.Refusals.{number_of}
use Rattle.rules.specs.declared.Rejection.{Rejection}
use Rattle.solver.specs.declared.Solution.{Solution}
use Rattle.solver.specs.declared.Solution.TheVariants.{Found, NoRoute}
use Rattle.planner.specs.declared.Planner.{Planner}
use Rattle.planner.specs.declared.Standing.{Standing}
use Rattle.planner.specs.declared.Loaded.{Loaded}
use Rattle.planner.specs.Counted.{subqueries_of}
use Rattle.planner.specs.State.{State}
use Rattle.planner.specs.Done.{Done, done_with}
use Rattle.planner.specs.Load as Load
use Rattle.planner.specs.Link as Link
use Rattle.planner.specs.Solve as Solve
use Rattle.planner.specs.Check as Check

-- The standing state of a planner: the query of what stands.
abbrev pub stands_in : Option Standing → State
stands_in None = none
stands_in (Some s) = some s.query

abbrev pub state_of : Planner → State
state_of p = stands_in p.standing

-- An answer and the state of the planner that the call leaves.
abbrev pub done_of : {Answer : Type 0} → Answer → Planner → Done Answer
done_of a p = done_with a (state_of p)

-- Each call's answer by the rules' numbers and values.
abbrev pub of_load : Result Loaded Refusal → Load.Answer
of_load (Ok l) = Load.loaded l.relations l.subqueries
of_load (Err r) = Load.refused (number_of r)

abbrev pub of_link : Result (Unit {0}) Refusal → Link.Answer
of_link (Ok u) = Link.linked
of_link (Err r) = Link.refused (number_of r)

abbrev pub of_solve : Result Solution Refusal → Solve.Answer
of_solve (Ok (Found c l t)) = Solve.found c.0 l t
of_solve (Ok (NoRoute t)) = Solve.no_route t
of_solve (Err r) = Solve.refused (number_of r)

abbrev pub of_check : Result Charge Rejection → Check.Answer
of_check (Ok c) = Check.allowed c.0
of_check (Err r) = Check.refused (number_of r.refusal) r.place

-- What holds of every planner, as the type has it: a standing query is valid, and its subqueries are counted.
pub record Sound (p : Planner) : Type 0 where
  pub valid : (s : Standing) → p.standing ≡ Some s → Valid s.query
  pub counted : (s : Standing) → p.standing ≡ Some s → s.subqueries ≡ subqueries_of s.query
