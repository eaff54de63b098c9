-- Demand 3: the query in force stands in the planner and is valid, so the two bounds on the tables' figure hold of it.
use Prim.{tt}
use Prim.Native.Nat.{ℕ, ◌+◌, ◌≤◌}
use native.Mathlib.Omega.{arith}
use mathlib.Core.Path.{◌≡◌, refl, sym, ap, subst, ◌∙◌}
use mathlib.Core.Logic.{◌↔◌}
use mathlib.Core.Bool.{true, and-eq-true_iff}
use mathlib.Core.List.{List, ◌++◌}
use mathlib.Core.Option.{none, some}
use lib.ListN.{length, drop}
use lib.Dec.{leb}
use borrow.Author.Tests.{leb-true, le-leb}
use Rattle.query.specs.declared.Query.{Query}
use Rattle.query.specs.Cost.{Cost}
use Rattle.query.specs.Query.{Valid}
use Rattle.rules.specs.Allowed.{longest_plan}
use Rattle.tables.specs.Tables.{cheapest, trials}
use Rattle.tables.specs.Written.{written}
use Rattle.tables.specs.Work.{cells_needed}
use Rattle.tables.proofs.Upper.{written_law, written_most}
use Rattle.tables.proofs.Lower.{cheapest_law}
use Rattle.rules.proofs.Combinations.{plus_combines}
use Rattle.tables.proofs.Optimum.{no_route_law}
use Rattle.planner.specs.State.{State}
use Rattle.planner.specs.Solve.{Answer, no_route, found, Solving, solving_of, solved, has_room, solve_admitted}
use Rattle.planner.specs.Code.{state_of, of_solve}
use Rattle.planner.proofs.Sound.{standing_valid}
use Rattle.planner.proofs.Cells.{solve_is, writing_fits}
use Rattle.claim.specs.Lists.{in_force}
use Rattle.claim.specs.Claim.{NoPlan, Right, Demand3, Ample, EveryCall}
use Rattle.claim.proofs.InForce.{stands}

pub every_call : EveryCall
every_call calls p w = record {
  load = λ κs file. tt;
  load_rows = λ κs file. tt;
  link = λ a b f x r. tt;
  solve = λ κs cells output. tt;
  check = λ κs plan. tt;
  room = λ κs n s pairs. tt;
}

-- An admitted solve has a query in force, cells enough, and room for the plan if there is one.
pub record Admitted (s : State) (cells bytes : ℕ) : Type 0 where
  pub query : Query
  pub in_force : s ≡ some query
  pub enough : cells_needed query ≤ cells
  pub room : has_room query (cheapest ◌+◌ query) bytes ≡ true

pub admitted : (s : State) (cells bytes : ℕ) → solve_admitted s cells bytes ≡ true → Admitted s cells bytes
admitted none cells bytes e = absurd (let z : ◌≡◌ {A = ℕ} 0 1 = cc in omega arith)
admitted (some q) cells bytes e =
    let h = (and-eq-true_iff (leb (cells_needed q) cells) (has_room q (cheapest ◌+◌ q) bytes)).0 e in
    record { query = q; in_force = refl; enough = leb-true (cells_needed q) cells h.0; room = h.1 }

-- A plan that is found, and has room, is written.
pub written_is :
    (q : Query) (c : ℕ) (out : List ℕ) → has_room q (Cost.some c) (length out) ≡ true →
    solved q (Cost.some c) out ≡ (let plan = written ◌+◌ q in solving_of (found c (length plan) (trials q)) (plan ++ drop (length plan) out))
written_is q c out room = writing_fits c (trials q) (written ◌+◌ q) out (leb-true (length (written ◌+◌ q)) (length out) room)

module _ (q : Query) (valid : Valid q) (a : Answer) (before after : List ℕ) where
  -- What solve answers, by what the query costs, is right.
  right : (c : Cost) → cheapest ◌+◌ q ≡ c → has_room q c (length before) ≡ true → solving_of a after ≡ solved q c before → Right q a before after
  right Cost.none e room d =
      subst (λ (x : Answer). Right q x before after) (sym (ap (λ (y : Solving). y.answer) d))
      ((λ plan w. (no_route_law ◌+◌ plus_combines q valid).0 e plan w.0 w.1), ap (λ (y : Solving). y.output) d, refl)
  right (Cost.some c) e room d =
      let w = written_law ◌+◌ plus_combines q valid c e in
      let f = d ∙ written_is q c before room in
      subst (λ (x : Answer). Right q x before after) (sym (ap (λ (y : Solving). y.answer) f)) (
        record { plan = written ◌+◌ q; bytes = refl; front = ap (λ (y : Solving). y.output) f; allowed = w.allowed },
        (λ plan x h. rw e at (cheapest_law ◌+◌ plus_combines q valid plan x h)),
        refl,
      )

  -- No route is the answer exactly when no plan is allowed.
  exactly : (c : Cost) → cheapest ◌+◌ q ≡ c → has_room q c (length before) ≡ true → solving_of a after ≡ solved q c before → (a ≡ no_route (trials q)) ↔ NoPlan q
  exactly Cost.none e room d = ((λ g plan w. (no_route_law ◌+◌ plus_combines q valid).0 e plan w.0 w.1), λ g. ap (λ (y : Solving). y.answer) d)
  exactly (Cost.some c) e room d =
      let f = ap (λ (y : Solving). y.answer) (d ∙ written_is q c before room) in
      ((λ g. absurd (let z : ◌≡◌ {A = ℕ} 0 1 = cc in omega arith)), λ g. absurd (g (written ◌+◌ q) (c, (written_law ◌+◌ plus_combines q valid c e).allowed)))

pub demand3 : Demand3
demand3 calls p w κs cells cells' output output' r post ok =
    let n = length cells.now in
    let h = admitted (in_force calls) n (length output.now) ok in
    let q = h.query in
    let stood = stands w ∙ h.in_force in
    let valid = standing_valid p q stood in
    let d = post.0 ∙ solve_is (state_of p) q n output.now stood h.enough in
    record {
      query = q;
      in_force = h.in_force;
      right = right q valid (of_solve r) output.now output'.now (cheapest ◌+◌ q) refl h.room d;
      no_route = exactly q valid (of_solve r) output.now output'.now (cheapest ◌+◌ q) refl h.room d;
    }

-- The written plan is no longer than a plan may be.
long_enough : (q : Query) → Valid q → (c : Cost) → cheapest ◌+◌ q ≡ c → (bytes : ℕ) → longest_plan ≤ bytes → has_room q c bytes ≡ true
long_enough q valid Cost.none e bytes h = refl
long_enough q valid (Cost.some c) e bytes h = le-leb (length (written ◌+◌ q)) bytes (omega (arith, written_most ◌+◌ plus_combines q valid c e))

pub ample : Ample
ample calls p w q e cells bytes enough room =
    let valid = standing_valid p q (stands w ∙ e) in
    rw (e, le-leb (cells_needed q) cells enough, long_enough q valid (cheapest ◌+◌ q) refl bytes room)
