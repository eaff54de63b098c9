-- The figure of the whole query at the query site is what it costs: it is below the figure of none exactly where there is a way, and the answer follows.
use Prim.Native.Nat.{ℕ, ◌+◌, ◌*◌, ◌^◌, ◌≤◌, ◌<◌}
use native.Mathlib.Nat.{mul-le-mul}
use native.Mathlib.Omega.{arith}
use mathlib.Core.Path.{◌≡◌, refl, sym, ap}
use mathlib.Core.List.{List, ◌++◌}
use lib.ListN.{length, drop}
use lib.Pow.{pow_mono}
use Rattle.relations.specs.Sets.{all}
use Rattle.relations.specs.Code.{most_sets}
use Rattle.relations.proofs.Subqueries.{subqueries_law}
use Rattle.subqueries.specs.Table.{TableOf}
use Rattle.query.specs.declared.Query.{Query}
use Rattle.query.specs.Query.{Valid, relations_of, sites_of}
use Rattle.query.specs.Cost.{Cost, none, some}
use Rattle.rules.specs.Combine.{Combines}
use Rattle.tables.specs.Tables.{cheapest, joins_below}
use Rattle.tables.specs.Written.{written}
use Rattle.tables.specs.Work.{cells_needed}
use Rattle.tables.specs.Theorems.{most_cost}
use Rattle.tables.proofs.Most.{delivered_most}
use Rattle.tables.proofs.Trials.{joins_below_lem, joins_whole}
use Rattle.solver.specs.declared.Solution.{Solution}
use Rattle.solver.specs.declared.Solution.TheVariants.{Found, NoRoute}
use Rattle.board.specs.Figures.{none_mark, mark}
use Rattle.board.specs.Board.{BoardOf}
use Rattle.filler.specs.Trials.{lent}
use Rattle.filler.specs.Filling.{LaidOut, Fillable, FilledFrom}
use Rattle.solver.specs.Solution.{solution_of, plan_after}
use Rattle.board.proofs.Here.{tree_here, drawn_here}

-- A cost from its figure.
marked_number : (c : Cost) (x : ℕ) → x ≡ mark c → x < none_mark → c ≡ some x
marked_number none x e h = absurd (omega arith)
marked_number (some c) x e h = ap some (sym e)

marked_none : (c : Cost) (x : ℕ) → x ≡ mark c → ((y : ℕ) → c ≡ some y → y ≤ most_cost) → none_mark ≤ x → c ≡ none
marked_none none x e most h = refl
marked_none (some c) x e most h = absurd (omega (arith, most c refl))

-- What the query costs, from its figure.
module _ (combine : ℕ → ℕ → ℕ) (C : Combines combine) (q : Query) (v : Valid q) (x : ℕ) (is : x ≡ mark (cheapest combine q)) where
  pub cheapest_number : x < none_mark → cheapest combine q ≡ some x
  cheapest_number h = marked_number (cheapest combine q) x is h

  pub cheapest_none : none_mark ≤ x → cheapest combine q ≡ none
  cheapest_none h =
      marked_none (cheapest combine q) x is
      (λ y. delivered_most combine C q v (all (relations_of q)) q.target y (subqueries_law q.joins (relations_of q) v.tree).whole) h

-- What filling asks, from the board and the table of a valid query.
pub laid_here : (q : Query) (b places work : List ℕ) → Valid q → BoardOf q b → LaidOut q (lent b q.sizes places work)
laid_here q b places work v board = record { valid = v; board = board; sizes = refl }

pub fillable_here : (q : Query) (b places work table : List ℕ) → Valid q → BoardOf q b → TableOf q.joins table (2 ^ (q.joins.count + 1)) →
    length places ≡ most_sets → cells_needed q ≤ length work → Fillable q (lent b q.sizes places work) table
fillable_here q b places work table v board table_is long room =
    record {
      laid = laid_here q b places work v board;
      table_is = record { few = (drawn_here q v).few; tree = tree_here q v; entries = table_is };
      places_long = long;
      room = room;
    }

-- What filling leaves of a query: its cells, and what is lent to read the answer off them.
pub filled_here : (q : Query) (b places after work new table : List ℕ) (r : ℕ) → Valid q → BoardOf q b → TableOf q.joins table (2 ^ (q.joins.count + 1)) →
    length places ≡ most_sets → cells_needed q ≤ length work →
    ((p : Query) → Fillable p (lent b q.sizes places work) table → FilledFrom ◌+◌ p work new after r) →
    FilledFrom ◌+◌ q work new after r × LaidOut q (lent b q.sizes after new)
filled_here q b places after work new table r v board table_is long room fills =
    (fills q (fillable_here q b places work table v board table_is long room), laid_here q b after new v board)

-- An answer, and what becomes of the two lent areas.
abbrev Answered : Query → (old work : List ℕ) → Solution → (plan left : List ℕ) → Type 0
Answered q old work answer plan left =
    (answer ≡ solution_of q (cheapest ◌+◌ q)) ×
    ((left ≡ plan_after (cheapest ◌+◌ q) (written ◌+◌ q) plan) × ((length work ≡ length old) × (drop (cells_needed q) work ≡ drop (cells_needed q) old)))

-- What filling leaves: the trials are few, and the answer follows from what the query costs.
module _ (q : Query) (old work places : List ℕ) (r : ℕ) (f : FilledFrom ◌+◌ q old work places r) (v : Valid q) where
  tried : r + q.joins.count ≡ joins_below q.joins (relations_of q) (2 ^ relations_of q)
  tried = omega (arith, f.joins, joins_whole q.joins (relations_of q) v.tree)

  pub tried_few : r + q.joins.count ≤ 8 * most_sets
  tried_few =
      let sets : 2 ^ relations_of q ≤ 2 ^ 9 = pow_mono v.relations_most in
      omega (arith, tried, joins_below_lem q.joins (relations_of q) (2 ^ relations_of q) sets)

  pub trials_few : sites_of q * (r + q.joins.count) ≤ 8 * (8 * most_sets)
  trials_few = mul-le-mul v.sites_most tried_few

  module _ (t : ℕ) (trials-are : t ≡ sites_of q * (r + q.joins.count)) where
    pub answer_found : (c n : ℕ) (plan left : List ℕ) → cheapest ◌+◌ q ≡ some c →
        (n ≡ length (written ◌+◌ q)) × (left ≡ written ◌+◌ q ++ drop (length (written ◌+◌ q)) plan) → Answered q old work (Found (record { 0 = c }) n t) plan left
    answer_found c n plan left number wrote = (rw (number, wrote.0, trials-are, tried), (rw number wrote.1, (f.long, f.later)))

    pub answer_none : (plan : List ℕ) → cheapest ◌+◌ q ≡ none → Answered q old work (NoRoute t) plan plan
    answer_none plan e = (rw (e, trials-are, tried), (rw e, (f.long, f.later)))
