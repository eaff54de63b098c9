-- A turn of the loop over the sets, for each query of which the loop holds the lists: the table tells whether the set is a subquery and which joins are
-- in it, and the cells that are stored for it are Delivered.
use Prim.Native.Nat.{ℕ, ◌+◌, ◌-◌, ◌*◌, ◌%◌, ◌^◌, ◌≤◌, ◌<◌}
use native.Mathlib.Omega.{arith}
use mathlib.Core.Path.{◌≡◌, refl, sym, ap, subst, ◌∙◌}
use mathlib.Core.Bool.{Bool, true, false}
use mathlib.Core.List.{List}
use lib.Count.{ones, ones-le}
use lib.ListN.{length, get_or, set}
use lib.Pow.{pow_pos, pow_mono}
use Rattle.relations.specs.Code.{most_sets}
use Rattle.relations.specs.Sets.{all}
use Rattle.relations.specs.Trees.{is_subquery, Subquery, join_bits}
use Rattle.relations.proofs.Bits.{all_below}
use Rattle.relations.proofs.Subqueries.{subqueries_law}
use Rattle.subqueries.specs.Table.{is_connected}
use Rattle.subqueries.proofs.Entries.{tested, entry_joins}
use Rattle.query.specs.declared.Query.{Query}
use Rattle.query.specs.Query.{relations_of, sites_of}
use Rattle.rules.specs.Combine.{Combines}
use Rattle.tables.proofs.Tables.{ones_some}
use Rattle.tables.specs.Work.{most_cells}
use Rattle.tables.proofs.Trials.{joins_below_lem}
use Rattle.tables.proofs.Work.{most_cells_lem}
use Rattle.filler.specs.Cells.{reach, Stored}
use Rattle.board.specs.Board.{joins_at, sites_at}
use Rattle.filler.specs.Trials.{Lent, lent, size_in, Startable, start_in}
use Rattle.sender.specs.Delivering.{Carriable, DeliveredFrom}
use Rattle.filler.specs.Filling.{LaidOut, Fillable}
use Rattle.filler.proofs.Places.{place_low, reach_within, reach_eight}
use Rattle.filler.proofs.Boards.{lines_carriable}
use Rattle.filler.proofs.Columns.{startable, cells_are}
use Rattle.filler.proofs.SetsFilled.{Going, going_skip, going_on}

module _ (q : Query) (l : Lent) (table : List ℕ) (f : Fillable q l table) where
  pub lines_here : Carriable l.board 0
  lines_here =
      let c = lines_carriable q l f.laid 0 in
      record { few = c.few; fixed_most = c.fixed_most; rate_most = c.rate_most; size_most = omega arith }

  -- The sets end where they should.
  pub end_is : (e : ℕ) → e ≡ all (joins_at l.board + 1) → e ≡ all (relations_of q)
  end_is e h = h ∙ ap (λ (m : ℕ). all (m + 1)) f.laid.board.joins ∙ ap all f.laid.valid.tree.joins

  pub end_low : (e : ℕ) → e ≡ all (relations_of q) → (1 ≤ e) × (e < most_sets)
  end_low e h =
      (omega (arith, pow_mono {i = 1} {j = relations_of q} (omega (arith, f.laid.valid.tree.joins))), omega (arith, pow_pos (relations_of q), pow_mono {i = relations_of q} {j = 9} f.laid.valid.relations_most))

module _ (combine : ℕ → ℕ → ℕ) (C : Combines combine) (b sizes table before old work places : List ℕ) (S next tried e : ℕ) (q : Query)
    (f : Fillable q (lent b sizes before old) table) (g : Going combine q old work places S next tried) (below : S < e) (end : e ≡ all (relations_of q)) (d : Bool)
    (test : d ≡ is_connected (get_or table S 0)) where
  low : S < 2 ^ (q.joins.count + 1)
  low = omega (arith, all_below (relations_of q), ap (λ (n : ℕ). 2 ^ n) f.laid.valid.tree.joins)

  set_few : S < 2 ^ 9
  set_few = omega (arith, all_below (relations_of q), pow_mono {i = relations_of q} {j = 9} f.laid.valid.relations_most)

  laid_now : LaidOut q (lent b sizes places work)
  laid_now = record { valid = f.laid.valid; board = f.laid.board; sizes = f.laid.sizes }

  is_subquery_lem : d ≡ is_subquery q.joins (relations_of q) S
  is_subquery_lem = tested q.joins table S (2 ^ (q.joins.count + 1)) d f.table_is test low refl ∙ ap (λ (n : ℕ). is_subquery q.joins n S) f.laid.valid.tree.joins

  -- The joins counted so far are few, and so are the cells.
  pub ones_few : ones S ≤ 9
  ones_few = ones-le 9 S set_few

  pub tried_few : tried ≤ 8 * most_sets
  tried_few = let few : S ≤ most_sets = omega (arith, set_few) in omega (arith, g.joins, joins_below_lem q.joins (relations_of q) S few)

  pub sites_few : (s : ℕ) → s ≡ sites_at b → s ≤ 8
  sites_few s is = omega (arith, f.laid.board.sites, f.laid.valid.sites_most)

  pub next_few : next ≤ most_cells
  next_few =
      let v = f.laid.valid in
      omega (arith, g.next_is, place_low q S (all (relations_of q)) (subqueries_law q.joins (relations_of q) v.tree).whole (omega arith), most_cells_lem q v)

  pub turn_skip : d ≡ false → Going combine q old work places (S + 1) next tried
  turn_skip out = going_skip combine q f.laid.valid old work places S next tried g (sym is_subquery_lem ∙ out)

  -- A subquery: what filling its cells asks, and what it leaves.
  module _ (held : d ≡ true) where
    subquery : Subquery q.joins (relations_of q) S
    subquery = sym is_subquery_lem ∙ held

    pub relations_some : 1 ≤ ones S
    relations_some = ones_some q f.laid.valid S subquery

    joins_are : (j : ℕ) → j ≡ get_or table S 0 % 256 → j ≡ join_bits q.joins S q.joins.count
    joins_are j joins = joins ∙ ap (λ (x : ℕ). x % 256) (f.table_is.entries.each S low) ∙ entry_joins q.joins S f.table_is.few

    pub turn_startable : (j : ℕ) → j ≡ get_or table S 0 % 256 → Startable (lent b sizes places work) j S
    turn_startable j joins = rw (joins_are j joins) (startable combine C q (lent b sizes places work) laid_now S subquery g.cells)

    pub turn_roomy : next + reach (sites_at b) ≤ length work
    turn_roomy =
        let v = f.laid.valid in
        rw f.laid.board.sites
        (omega (arith, g.next_is, reach_within q v S (all (relations_of q)) subquery (subqueries_law q.joins (relations_of q) v.tree).whole (omega arith), g.cells.room))

    pub turn_on : (j : ℕ) → j ≡ get_or table S 0 % 256 → (new noted : List ℕ) (at then : ℕ) → at ≡ next → noted ≡ set places S at → then ≡ next + sites_at b →
        (r : List ℕ) × (DeliveredFrom b (size_in (lent b sizes places work) S) (start_in combine (lent b sizes places work) j S) r ×
        Stored work new next (λ (t : ℕ). get_or r t 0) (reach (sites_at b))) → Going combine q old new noted (S + 1) then (tried + (ones S - 1))
    turn_on j joins new noted at then is note after (r, (from, stored)) =
        rw (note, is, after, f.laid.board.sites)
        (going_on combine q f.laid.valid old work places S next tried g new (λ (t : ℕ). get_or r t 0) subquery
        (rw f.laid.board.sites at stored)
        (λ t low. cells_are combine C q (lent b sizes places work) laid_now S subquery g.cells r
        (subst (λ (x : ℕ). DeliveredFrom b (size_in (lent b sizes places work) S) (start_in combine (lent b sizes places work) x S) r) (joins_are j joins) from) t low)
        (λ t low. from.between.marked.most t (omega (arith, reach_eight (sites_of q)))) (omega arith) (omega (arith, g.noted, set_few)))
