-- `filling::fill` meets its contract: each turn fills the cells of one set more, and the sets below the next one stay filled. Assumes nothing.
use Prim.Native.Nat.{ℕ, ◌+◌, ◌*◌, ◌<◌, ◌≤◌}
use native.Mathlib.Omega.{arith}
use mathlib.Core.Bool.{Bool, true}
use mathlib.Core.List.{List}
use mathlib.Core.Path.{◌≡◌, refl, ap, ◌∙◌}
use lib.Count.{ones}
use lib.ListN.{get_or}
use Rattle.relations.specs.Code.{most_sets}
use Rattle.relations.specs.Sets.{all}
use Rattle.query.specs.declared.Query.{Query}
use Rattle.query.specs.Query.{relations_of}
use Rattle.subqueries.specs.Table.{is_connected}
use Rattle.rules.proofs.Combinations.{plus_combines}
use Rattle.tables.specs.Work.{most_cells}
use Rattle.board.specs.Board.{sites_at}
use Rattle.filler.specs.Trials.{lent}
use Rattle.filler.specs.Filling.{Fillable}
use Rattle.filler.proofs.SetsFilled.{Going, going_start}
use Rattle.filler.proofs.SetTurns.{lines_here, end_is, end_low, next_few, sites_few, tried_few, turn_skip, turn_startable, turn_roomy, turn_on, relations_some, ones_few}
use Rattle.filler.proofs.filling.fill.Goals as goal
use Rattle.filler.proofs.filling.fill.Goals.{then-is_connected, else-is_connected}

-- What a turn counts is small, for a subquery of the query that the caller has.
bounds : (b sizes table before old work places : List ℕ) (S next tried e s : ℕ) (d : Bool) → (p : (q : Query) × Fillable q (lent b sizes before old) table) →
    (e ≡ all (relations_of p.0)) × Going ◌+◌ p.0 old work places S next tried → S < e → d ≡ is_connected (get_or table S 0) → d ≡ true → s ≡ sites_at b →
    ((next ≤ most_cells) × (s ≤ 8)) × ((1 ≤ ones S) × ((ones S ≤ 9) × (tried ≤ 8 * most_sets)))
bounds b sizes table before old work places S next tried e s d p h low test held is = (
  (next_few ◌+◌ plus_combines b sizes table before old work places S next tried e p.0 p.1 h.1 low h.0 d test, sites_few ◌+◌ plus_combines b sizes table before old work places S next tried e p.0 p.1 h.1 low h.0 d test s is),
  (
    relations_some ◌+◌ plus_combines b sizes table before old work places S next tried e p.0 p.1 h.1 low h.0 d test held,
    (ones_few ◌+◌ plus_combines b sizes table before old work places S next tried e p.0 p.1 h.1 low h.0 d test, tried_few ◌+◌ plus_combines b sizes table before old work places S next tried e p.0 p.1 h.1 low h.0 d test),
  ),
)

pub is_direct-direct-requires : goal.is_direct-direct-requires
is_direct-direct-requires c = let p = c.requires in lines_here p.0 _ _ p.1

pub loop-set-init : goal.loop-set-init
loop-set-init c =
    let p = c.requires in
    let ended = c.whole-end.ensures ∙ ap (λ (m : ℕ). all (m + 1)) c.joins_of.ensures in
    (end_low p.0 _ _ p.1 _ (end_is p.0 _ _ p.1 _ ended), λ q f. (end_is q _ _ f _ ended, going_start ◌+◌ q f.laid.valid _ _ f.room f.places_long))

pub fill_set-requires : goal.fill_set-requires
fill_set-requires c =
    let p = c.requires in
    let h = c.loop-set.invariant.1 p.0 p.1 in (
      (turn_startable ◌+◌ plus_combines _ _ _ _ _ _ _ _ _ _ _ p.0 p.1 h.1 c.loop-set-test.true h.0 _ c.is_connected.ensures c.if-is_connected.true _ c.joins_in.ensures, c.is_direct-direct.ensures),
      (next_few ◌+◌ plus_combines _ _ _ _ _ _ _ _ _ _ _ p.0 p.1 h.1 c.loop-set-test.true h.0 _ c.is_connected.ensures, turn_roomy ◌+◌ plus_combines _ _ _ _ _ _ _ _ _ _ _ p.0 p.1 h.1 c.loop-set-test.true h.0 _ c.is_connected.ensures c.if-is_connected.true),
    )

pub overflow_cast-places : goal.overflow_cast-places
overflow_cast-places c = let p = c.requires in omega (arith, bounds _ _ _ _ _ _ _ _ _ _ _ _ _ p (c.loop-set.invariant.1 p.0 p.1) c.loop-set-test.true c.is_connected.ensures c.if-is_connected.true c.sites_of-sites.ensures)

pub overflow_add-next : goal.overflow_add-next
overflow_add-next c = let p = c.requires in omega (arith, bounds _ _ _ _ _ _ _ _ _ _ _ _ _ p (c.loop-set.invariant.1 p.0 p.1) c.loop-set-test.true c.is_connected.ensures c.if-is_connected.true c.sites_of-sites.ensures)

pub overflow_sub-tried : goal.overflow_sub-tried
overflow_sub-tried c = let p = c.requires in omega (arith, bounds _ _ _ _ _ _ _ _ _ _ _ _ _ p (c.loop-set.invariant.1 p.0 p.1) c.loop-set-test.true c.is_connected.ensures c.if-is_connected.true c.sites_of-sites.ensures)

pub overflow_add-tried : goal.overflow_add-tried
overflow_add-tried c = let p = c.requires in omega (arith, bounds _ _ _ _ _ _ _ _ _ _ _ _ _ p (c.loop-set.invariant.1 p.0 p.1) c.loop-set-test.true c.is_connected.ensures c.if-is_connected.true c.sites_of-sites.ensures)

pub loop-set-preserved : goal.loop-set-preserved
loop-set-preserved c = (
  c.loop-set.invariant.0,
  λ q f.
      let h = c.loop-set.invariant.1 q f in (
        h.0,
        elim c.if-is_connected.branch [
          | then-is_connected w ↦ rw (w.places-is, w.work-is, w.tried-is, w.next-is, w.from.ensures) (turn_on ◌+◌ plus_combines _ _ _ _ _ _ _ _ _ _ _ q f h.1 c.loop-set-test.true h.0 _ c.is_connected.ensures w.if-is_connected.true _ w.joins_in.ensures _ _ _ _
              refl refl (omega (arith, c.sites_of-sites.ensures)) w.fill_set.ensures)
          | else-is_connected w ↦ rw (w.places-is, w.work-is, w.tried-is, w.next-is) (turn_skip ◌+◌ plus_combines _ _ _ _ _ _ _ _ _ _ _ q f h.1 c.loop-set-test.true h.0 _ c.is_connected.ensures w.if-is_connected.false)
        ],
      ),
)
