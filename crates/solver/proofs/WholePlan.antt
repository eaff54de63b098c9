-- The whole plan: all relations at the query site, in room for the longest plan; its count goes before its steps.
use Prim.Native.Nat.{ℕ, ◌+◌, ◌-◌, ◌/◌, ◌≤◌}
use native.Mathlib.Omega.{arith}
use mathlib.Core.Path.{◌≡◌, ap, ◌∙◌}
use mathlib.Core.List.{List, ◌++◌}
use lib.ListN.{length, get_or, drop, set}
use mir.Syntax.{w8}
use mir.Val.{Fits}
use Rattle.relations.specs.Sets.{all}
use Rattle.relations.proofs.Subqueries.{subqueries_law}
use Rattle.query.specs.declared.Query.{Query}
use Rattle.query.specs.Query.{relations_of}
use Rattle.query.specs.Cost.{some}
use Rattle.rules.specs.Combine.{Combines}
use Rattle.rules.specs.Allowed.{longest_plan}
use Rattle.tables.specs.Tables.{cheapest}
use Rattle.tables.specs.Written.{written_delivered, written_steps, step_bytes, written}
use Rattle.tables.proofs.Upper.{written_most}
use Rattle.tables.proofs.StepBytes.{step_bytes_long}
use Rattle.board.specs.Figures.{mark}
use Rattle.board.specs.Board.{joins_at, sites_at}
use Rattle.filler.specs.Trials.{Lent, size_in, start_in}
use Rattle.sender.specs.Rows.{AtSites}
use Rattle.sender.specs.Delivering.{DeliveredFrom}
use Rattle.filler.specs.Filling.{LaidOut, Filled}
use Rattle.solver.specs.Writing.{joins_within, Known, ToDeliver}
use Rattle.router.specs.Wrote.{Wrote}
use Rattle.router.proofs.Stores.{plan_stored}
use Rattle.solver.proofs.Choices.{cell_figure}

module _ (combine : ℕ → ℕ → ℕ) (C : Combines combine) (l : Lent) (t joins S : ℕ) (joins_are : joins ≡ joins_at l.board) (every : S ≡ all (joins + 1)) where
  -- The query that is laid out, all of whose smaller subqueries are filled.
  module _ (q : Query) (laid : LaidOut q l) (filled : Filled combine q l.places l.work (all (relations_of q))) where
    all_is : S ≡ all (relations_of q)
    all_is = let n : joins + 1 ≡ relations_of q = omega (arith, joins_are, laid.board.joins, laid.valid.tree.joins) in every ∙ ap all n

    pub known : Known combine q l S
    known = rw all_is (record { laid = laid; filled = filled; subquery = (subqueries_law q.joins (relations_of q) laid.valid.tree).whole })

    -- What it costs at the query site, from the row that it starts from.
    pub whole_figure : q.target ≡ t → (row : List ℕ) (js x : ℕ) (new : List ℕ) → js ≡ joins_within l.board S (joins_at l.board) →
        AtSites (sites_at l.board) row (start_in combine l js S) → x ≡ size_in l S → DeliveredFrom l.board x (λ (i : ℕ). get_or row i 0) new →
        get_or new t 0 ≡ mark (cheapest combine q)
    whole_figure to row js x new js-are lanes size from =
        cell_figure combine C q l S known row js x t new js-are lanes size (omega (arith, to, laid.valid.target_in)) from
        ∙ rw (all_is, ← to)

  -- The same with a way to its query site.
  module _ (q : Query) (laid : LaidOut q l) (filled : Filled combine q l.places l.work (all (relations_of q))) (to : q.target ≡ t) (c : ℕ)
      (number : cheapest combine q ≡ some c) where
    whole_is : S ≡ all (relations_of q)
    whole_is = all_is q laid filled

    start : ToDeliver combine q l S t c
    start = record {
      known = known q laid filled;
      listed = rw (← to) laid.valid.target_in;
      cost_is = rw (whole_is, ← to) number;
    }

    abbrev steps : List ℕ
    steps = step_bytes (written_steps combine q)

    bytes_are : step_bytes (written_delivered combine q S t) ≡ steps
    bytes_are = rw (whole_is, ← to)

    most : 1 + length steps ≤ longest_plan
    most = omega (arith, written_most combine C q laid.valid c number)

    stored : (old new : List ℕ) (r : ℕ) → longest_plan ≤ length old → Wrote old 1 steps r new →
        (r ≡ length (written combine q)) × (set new 0 ((r - 1) / 2) ≡ written combine q ++ drop (length (written combine q)) old)
    stored old new r room w =
        let count : (r - 1) / 2 ≡ length (written_steps combine q) = omega (arith, w.next, step_bytes_long (written_steps combine q)) in
        (omega (arith, w.next), rw count (plan_stored old new steps (length (written_steps combine q)) r w (omega (arith, most))))

  -- What the writer of a plan is asked.
  abbrev Planning : ℕ → List ℕ → Type 0
  Planning c old =
      (q : Query) × ((LaidOut q l × Filled combine q l.places l.work (all (relations_of q))) × ((q.target ≡ t) × ((cheapest combine q ≡ some c) × (longest_plan ≤ length old))))

  pub plan_asked : (c : ℕ) (old : List ℕ) → Planning c old → (q : Query) × (ToDeliver combine q l S t c × (1 + length (step_bytes (written_delivered combine q S t)) ≤ length old))
  plan_asked c old (q, ((laid, filled), (to, (number, room)))) =
      (q, (start q laid filled to c number, rw (bytes_are q laid filled to c number) (omega (arith, most q laid filled to c number))))

  module _ (c : ℕ) (old new : List ℕ) (r : ℕ) (p : Planning c old) (w : (q : Query) → ToDeliver combine q l S t c → Wrote old 1 (step_bytes (written_delivered combine q S t)) r new) where
    wrote : (q : Query) (laid : LaidOut q l) (filled : Filled combine q l.places l.work (all (relations_of q))) (to : q.target ≡ t) (number : cheapest combine q ≡ some c) →
        Wrote old 1 (step_bytes (written_steps combine q)) r new
    wrote q laid filled to number = rw (bytes_are q laid filled to c number) at (w q (start q laid filled to c number))

    own : Wrote old 1 (step_bytes (written_steps combine p.0)) r new
    own = wrote p.0 p.1.0.0 p.1.0.1 p.1.1.0 p.1.1.1.0

    pub plan_some : 1 ≤ r
    plan_some = omega (arith, own.next)

    pub plan_few : Fits w8 ((r - 1) / 2)
    plan_few = record { fits = omega (arith, own.next, most p.0 p.1.0.0 p.1.0.1 p.1.1.0 c p.1.1.1.0) }

    pub plan_is : (q : Query) → LaidOut q l → Filled combine q l.places l.work (all (relations_of q)) → q.target ≡ t → cheapest combine q ≡ some c →
        (r ≡ length (written combine q)) × (set new 0 ((r - 1) / 2) ≡ written combine q ++ drop (length (written combine q)) old)
    plan_is q laid filled to number = stored q laid filled to c number old new r p.1.1.1.1 (wrote q laid filled to number)
