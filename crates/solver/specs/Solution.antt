-- What solving a query answers, by what it costs, and what becomes of the lent plan bytes.
use Rattle.std.specs.Prelude.{ℕ, ◌+◌, List, ◌++◌, length, drop}
use Rattle.query.specs.declared.Query.{Query}
use Rattle.query.specs.Cost.{Cost, none, some}
use Rattle.solver.specs.declared.Solution.{Solution}
use Rattle.solver.specs.declared.Solution.TheVariants.{Found, NoRoute}
use Rattle.tables.specs.Tables.{trials}
use Rattle.tables.specs.Written.{written}

-- No route where there is none; else the cost and the written plan's length; the trials in either case.
abbrev pub solution_of : Query → Cost → Solution
solution_of q none = NoRoute (trials q)
solution_of q (some c) = Found (record { 0 = c }) (length (written ◌+◌ q)) (trials q)

-- The plan at the front, the rest as it was; nothing is written where there is none.
abbrev pub plan_after : Cost → List ℕ → List ℕ → List ℕ
plan_after none plan old = old
plan_after (some c) plan old = plan ++ drop (length plan) old
