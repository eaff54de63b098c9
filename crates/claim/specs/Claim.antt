-- The promise, whole: a claim over every list of load, link, solve, check and room calls, refused ones included, that starts from an
-- empty planner and ends in an admitted solve. Proved in proofs/Promise.antt.
use Prim.{tt}
use Rattle.std.specs.Prelude.{ℕ, ◌+◌, ◌≤◌, ◌≡◌, ◌↔◌, true, List, ◌++◌, length, drop, Result}
use Rattle.std.proofs.Math.Option.{some}
use Rattle.std.specs.Borrow.{Bor, MutBor}
use contract.Lifetimes.{Lfts}
use Rattle.query.specs.declared.Query.{Query}
use Rattle.query.specs.declared.refusal.Refusal.{Refusal}
use Rattle.rules.specs.Allowed.{AllowedAt, Allowed, longest_plan}
use Rattle.solver.specs.declared.Solution.{Solution}
use Rattle.tables.specs.Tables.{trials}
use Rattle.tables.specs.Work.{cells_needed}
use Rattle.planner.specs.declared.Planner.{Planner}
use Rattle.planner.specs.Solve.{Answer, found, no_route, refused, solve_admitted}
use Rattle.planner.specs.Code.{of_solve}
use Rattle.room.proofs.room.Reads as Room
use Rattle.planner.proofs.load.Reads as Load
use Rattle.planner.proofs.load_rows.Reads as LoadRows
use Rattle.planner.proofs.link.Reads as Link
use Rattle.planner.proofs.solve.Reads as Solve
use Rattle.planner.proofs.check.Reads as Check
use Rattle.claim.specs.Lists.{Call, in_force, Runs}

-- Nobody can write a plan for the query.
abbrev pub NoPlan : Query → Type 0
NoPlan q = (plan : List ℕ) → Allowed q plan → ⊥

-- Every allowed plan costs at least c.
abbrev pub NoneCheaper : Query → ℕ → Type 0
NoneCheaper q c = (plan : List ℕ) (x : ℕ) → AllowedAt ◌+◌ q plan x → c ≤ x

-- A plan of l bytes stands at the front of the output, whose rest stayed: it is allowed, and costs exactly c.
pub record WrittenAt (q : Query) (c l : ℕ) (before after : List ℕ) : Type 0 where
  pub plan : List ℕ
  pub bytes : length plan ≡ l
  pub front : after ≡ plan ++ drop l before
  pub allowed : AllowedAt ◌+◌ q plan c

-- What an admitted solve answers for the query in force: no route and the trials, where no plan is allowed and the output stayed; or the
-- cost, the length and the trials, where the plan at the front of the output is allowed at that cost and none is cheaper. It answers nothing
-- else.
abbrev pub Right : Query → Answer → (before after : List ℕ) → Type 0
Right q (no_route t) before after = NoPlan q × (after ≡ before) × (t ≡ trials q)
Right q (found c l t) before after = WrittenAt q c l before after × NoneCheaper q c × (t ≡ trials q)
Right q (refused k) before after = ⊥

-- What the list's last solve comes to.
pub record Solved (calls : List Call) (r : Result Solution Refusal) (before after : List ℕ) : Type 0 where
  pub query : Query
  pub in_force : in_force calls ≡ some query
  pub right : Right query (of_solve r) before after
  pub no_route : (of_solve r ≡ no_route (trials query)) ↔ NoPlan query

-- Demand 3.
abbrev pub Demand3 : Type 0
Demand3 =
    (calls : List Call) (p : Planner) → Runs calls p → (κs : Lfts 2) (cells cells' output output' : MutBor (List ℕ)) (r : Result Solution Refusal) →
    Solve.Post κs (p, (cells, (output, tt))) r (p, (cells', (output', tt))) →
    solve_admitted (in_force calls) (length cells.now) (length output.now) ≡ true → Solved calls r output.now output'.now

-- While a query is in force, a solve with as many cells as it needs and room for the longest plan is admitted.
abbrev pub Ample : Type 0
Ample =
    (calls : List Call) (p : Planner) → Runs calls p → (q : Query) → in_force calls ≡ some q →
    (cells bytes : ℕ) → cells_needed q ≤ cells → longest_plan ≤ bytes → solve_admitted (in_force calls) cells bytes ≡ true

-- Every call may be made on every planner that a list of calls gives: what each function requires holds there, whatever the call brings.
pub record Callable (p : Planner) : Type 0 where
  pub load : (κs : Lfts 1) (file : Bor (List ℕ)) → Load.Pre κs (p, (file, tt))
  pub load_rows : (κs : Lfts 1) (file : Bor (List ℕ)) → LoadRows.Pre κs (p, (file, tt))
  pub link : (a b f x r : ℕ) → Link.Pre tt (p, (a, (b, (f, (x, (r, tt))))))
  pub solve : (κs : Lfts 2) (cells output : MutBor (List ℕ)) → Solve.Pre κs (p, (cells, (output, tt)))
  pub check : (κs : Lfts 1) (plan : Bor (List ℕ)) → Check.Pre κs (p, (plan, tt))
  pub room : (κs : Lfts 1) (n s : ℕ) (pairs : Bor (List ℕ)) → Room.Pre κs (n, (s, (pairs, tt)))

abbrev pub EveryCall : Type 0
EveryCall = (calls : List Call) (p : Planner) → Runs calls p → Callable p
