-- Solve, with a lent work area of so many cells and a lent output: writes the cheapest plan at the front of the output, the rest stays, and
-- answers its cost, its length and the trials; or answers no route with the trials. The state stays. Refusals 20, 21, and 23 once a plan is
-- found.
use Rattle.std.specs.Prelude.{ℕ, ◌+◌, ◌≤◌, ◌<◌, ◌≡◌, ◌↔◌, Bool, true, false, ◌&&◌, List, ◌++◌, length, drop, replicate, ltb, leb}
use Rattle.std.proofs.Math.Option.{none, some}
use Rattle.query.specs.declared.Query.{Query}
use Rattle.query.specs.Choice.{pick}
use Rattle.query.specs.Query.{Valid}
use Rattle.query.specs.Cost.{Cost}
use Rattle.rules.specs.Allowed.{longest_plan}
use Rattle.tables.specs.Tables.{cheapest, trials}
use Rattle.tables.specs.Written.{written}
use Rattle.tables.specs.Work.{cells_needed}
use Rattle.planner.specs.State.{State}

-- What solve answers. A refusal's other fields are 0.
pub data Answer : Type 0 where
  found : (cost length trials : ℕ) → Answer
  no_route : (trials : ℕ) → Answer
  refused : (number : ℕ) → Answer

-- The answer, and the output as solve leaves it.
pub record Solving : Type 0 where
  pub answer : Answer
  pub output : List ℕ

abbrev pub solving_of : Answer → List ℕ → Solving
solving_of a out = record { answer = a; output = out }

-- A plan is found: it goes to the front of an output that has room for it.
abbrev pub writing : (cost trials : ℕ) → (plan out : List ℕ) → Solving
writing c t plan out =
    pick (ltb (length out) (length plan)) (solving_of (refused 23) out)
    (solving_of (found c (length plan) t) (plan ++ drop (length plan) out))

-- By what the query costs. Without a route the output stays, however short it is.
abbrev pub solved : Query → Cost → List ℕ → Solving
solved q Cost.none out = solving_of (no_route (trials q)) out
solved q (Cost.some c) out = writing c (trials q) (written ◌+◌ q) out

-- A refusal changes no lent byte.
unfoldable pub solve : (cells : ℕ) → (out : List ℕ) → State → Solving
solve cells out none = solving_of (refused 20) out
solve cells out (some q) = pick (ltb cells (cells_needed q)) (solving_of (refused 21) out) (solved q (cheapest ◌+◌ q) out)

-- How many first cells solve uses: none where it refuses 20 or 21, else those that it needs. What they then hold is free, after 23 too;
-- later cells stay.
abbrev pub used : State → (cells : ℕ) → ℕ
used none cells = 0
used (some q) cells = pick (ltb cells (cells_needed q)) 0 (cells_needed q)

-- Solve is admitted: none of its refusals applies.
abbrev pub has_room : Query → Cost → (bytes : ℕ) → Bool
has_room q Cost.none bytes = true
has_room q (Cost.some c) bytes = leb (length (written ◌+◌ q)) bytes

abbrev pub solve_admitted : State → (cells bytes : ℕ) → Bool
solve_admitted none cells bytes = false
solve_admitted (some q) cells bytes = leb (cells_needed q) cells && has_room q (cheapest ◌+◌ q) bytes

-- So it is exactly where it answers no refusal.
abbrev pub AdmittedLaw : Type 0
AdmittedLaw = (cells : ℕ) (out : List ℕ) (s : State) → (solve_admitted s cells (length out) ≡ true) ↔ ((k : ℕ) → (solve cells out s).answer ≡ refused k → ⊥)

-- How many cells it needs for what stands, and solve with just so many.
abbrev pub needed : State → ℕ
needed none = 0
needed (some q) = cells_needed q

abbrev pub solve_needed : List ℕ → State → Solving
solve_needed out s = solve (needed s) out s

-- How many cells are lent beyond the need does not show: the answer and the output are those of 4,096 cells, which are enough for every query, ties
-- included. Solve refuses 21 with fewer than the need, whatever the output, and never with as many.
pub record EnoughLaw : Type 0 where
  pub beyond : (n : ℕ) (out : List ℕ) (s : State) → needed s ≤ n → solve n out s ≡ solve (needed s) out s
  pub as_of_all : (out : List ℕ) (q : Query) → Valid q → solve (needed (some q)) out (some q) ≡ solve 4_096 out (some q)
  pub fewer : (n : ℕ) (out : List ℕ) (q : Query) → n < needed (some q) → solve n out (some q) ≡ solving_of (refused 21) out
  pub as_many : (n : ℕ) (out : List ℕ) (s : State) → needed s ≤ n → (solve n out s).answer ≡ refused 21 → ⊥

-- An output of zeros, with room for the longest plan.
abbrev pub blank : List ℕ
blank = replicate longest_plan 0
