-- Over a query's own board, with every smaller subquery's cells filled, the figures that the loops work out for a subquery are those of the two tables.
use Prim.Native.Nat.{ℕ, zero, suc, ◌+◌, ◌^◌, ◌≤◌, ◌<◌, zero-le}
use native.Mathlib.Nat.{le_refl, le_antisymm}
use native.Mathlib.Omega.{arith}
use mathlib.Core.Path.{◌≡◌, refl, sym, ap, ◌∙◌}
use mathlib.Core.Bool.{Bool, true, false}
use mathlib.Core.Logic.{◌⊎◌, inl, inr}
use mathlib.Core.List.{List}
use lib.ListN.{get_or}
use lib.Bits.{bit_and}
use lib.Count.{ones, count_trailing_zeros}
use lib.Dec.{eqb}
use borrow.Author.Tests.{eq-eqb, ne_eqb, eqb-true}
use Rattle.relations.specs.Sets.{bit}
use Rattle.relations.specs.Growth.{inside}
use Rattle.relations.specs.Trees.{Subquery, join_bits}
use Rattle.relations.proofs.Bits.{bit_pow, pow_cases}
use Rattle.relations.proofs.Connected.{subquery_range}
use Rattle.relations.proofs.Counts.{one_some, lowest_below}
use Rattle.query.specs.declared.Query.{Query}
use Rattle.query.specs.Choice.{pick}
use Rattle.query.specs.Cost.{Cost, none, some, AtMost}
use Rattle.query.specs.Query.{relations_of, sites_of, home}
use Rattle.query.specs.Prices.{sending, dearest_line}
use Rattle.rules.specs.Combine.{Combines}
use Rattle.routes.specs.Least.{lowest_at}
use Rattle.routes.specs.Routes.{by_sends, fewest_sends, next_site, carriage}
use Rattle.routes.proofs.Costs.{none_some, some_same, at_most_is, at_most_more, both_found, plus_most}
use Rattle.routes.proofs.Least.{least_most, least_found}
use Rattle.routes.proofs.Sends.{none_sent, first_send}
use Rattle.routes.proofs.Taken.{stays, fewest}
use Rattle.tables.specs.Tables.{first_part, only, by_site, delivered, joined}
use Rattle.tables.specs.Theorems.{most_cost}
use Rattle.tables.proofs.Lower.{sends}
use Rattle.tables.proofs.Most.{delivered_most, joined_most}
use Rattle.board.specs.Figures.{none_mark, mark}
use Rattle.board.specs.Board.{side_at, homes_at}
use Rattle.filler.specs.Trials.{Lent, size_in, Startable, joined_in, bare_at, start_in}
use Rattle.sender.specs.Delivering.{line_in, Carriable, DeliveredFrom}
use Rattle.filler.specs.Filling.{LaidOut, Filled}
use Rattle.filler.proofs.Marks.{UpToOr, Shows, up_to_is, mark_most}
use Rattle.filler.proofs.Started.{start_cost, delivered_started, one_of_none, none_is_one}
use Rattle.filler.proofs.Places.{set_low}
use Rattle.filler.proofs.Boards.{only_is, line_shows, lines_carriable}
use Rattle.filler.proofs.Parts.{part_of, joinable}
use Rattle.filler.proofs.JoinTrials.{joined_is}

-- A cost that is at most a number has a figure that is; and a figure that shows a number is that number.
mark_below : (c : Cost) (x : ℕ) → AtMost c x → mark c ≤ x
mark_below none x h = absurd h
mark_below (some c) x h = h

shows_some : (n x : ℕ) (c : Cost) (y : ℕ) → c ≡ some y → Shows n x c → x ≡ y
shows_some n x none y e h = absurd (none_some y e)
shows_some n x (some c) y e (is, few) = is ∙ some_same c y e

-- A relation stands at its home alone.
home_bit : (h k : ℕ) → pick (eqb (bit (2 ^ h) k) 1) 0 none_mark ≡ mark (pick (eqb k h) (some 0) none)
home_bit h k = go (pow_cases h k)
  where
    go : ((h ≡ k) × (bit (2 ^ h) k ≡ 1)) ⊎ (bit (2 ^ h) k ≡ 0) → pick (eqb (bit (2 ^ h) k) 1) 0 none_mark ≡ mark (pick (eqb k h) (some 0) none)
    go (inl (e, one)) = rw (eq-eqb k h (sym e), one)
    go (inr other) = rw (ne_eqb k h (λ e. omega (arith, bit_pow h, ap (bit (2 ^ h)) e)), other)

module _ (combine : ℕ → ℕ → ℕ) (C : Combines combine) (q : Query) (l : Lent) (laid : LaidOut q l) (S : ℕ) (s : Subquery q.joins (relations_of q) S) where
  low_set : S < 2 ^ relations_of q
  low_set = (subquery_range q.joins (relations_of q) S s).1

  -- The part that the side of a join gives.
  pub part_is : (e : ℕ) → e < q.joins.count → inside q.joins S e ≡ true → bit_and S (side_at l.board e) ≡ first_part q S e
  part_is e h within = part_of q l laid S s e h within

  -- What the lines ask.
  pub carriable : Carriable l.board (size_in l S)
  carriable = lines_carriable q l laid S

  pub start_up_to : (k : ℕ) → UpToOr most_cost (start_cost combine q S k)
  unfolding start_cost
  start_up_to k = go (eqb (ones S) 1) (eqb k (home q (only q S)))
    where
      go : (o h : Bool) → UpToOr most_cost (pick o (pick h (some 0) none) (joined combine q S k))
      go true true = zero-le
      go true false = tt
      go false h = up_to_is most_cost (joined combine q S k) (λ c e. joined_most combine C q laid.valid S k c s e)

  delivered_marked : (t : ℕ) → mark (delivered combine q S t) ≤ none_mark
  delivered_marked t =
      mark_most most_cost (delivered combine q S t) (omega arith) (up_to_is most_cost (delivered combine q S t) (λ c e. delivered_most combine C q laid.valid S t c s e))

  -- No line undercuts Delivered.
  delivered_uncut : (m t : ℕ) → m < sites_of q → t < sites_of q → mark (delivered combine q S t) ≤ mark (delivered combine q S m) + line_in l.board (size_in l S) m t
  delivered_uncut m t h low =
      go (delivered combine q S m) (sending q S m t) refl refl (line_shows q l laid S m t h (omega (arith, laid.valid.sites_most)))
    where
      go : (a b : Cost) → delivered combine q S m ≡ a → sending q S m t ≡ b → Shows dearest_line (line_in l.board (size_in l S) m t) b →
          mark (delivered combine q S t) ≤ mark a + line_in l.board (size_in l S) m t
      go none b e f shows = omega (arith, delivered_marked t)
      go (some x) none e f shows = omega (arith, delivered_marked t)
      go (some x) (some y) e f (is, few) =
          let less : mark (delivered combine q S t) ≤ x + y =
          mark_below (delivered combine q S t) (x + y)
          (sends combine C q laid.valid S m t x y s h low (at_most_is (sending q S m t) y y f (le_refl _)) (at_most_is (delivered combine q S m) x x e (le_refl _))) in
          omega arith

  -- From a row of what S has cost where it can start.
  module _ (row : ℕ → ℕ) (is : (k : ℕ) → k < sites_of q → row k ≡ mark (start_cost combine q S k)) where
    start_within : (t : ℕ) → t < sites_of q → mark (delivered combine q S t) ≤ row t
    start_within t h = rw (is t h) (go (start_cost combine q S t) refl)
      where
        go : (c : Cost) → start_cost combine q S t ≡ c → mark (delivered combine q S t) ≤ mark c
        go none e = delivered_marked t
        go (some c) e =
            mark_below (delivered combine q S t) c
            (rw (delivered_started combine q laid.valid S t s)
            (least_most (by_site (start_cost combine q S) q S t) (sites_of q) t c h
            (at_most_more (by_site (start_cost combine q S) q S t t) (c + 0) c (omega arith)
            (plus_most (start_cost combine q S t) (carriage q S t t) c 0 (at_most_is (start_cost combine q S t) c c e (le_refl _))
            (at_most_is (carriage q S t t) 0 0 (stays (sending q S) (sites_of q) t h) (le_refl _))))))

    -- What the loop leaves is Delivered: no line undercuts Delivered, and what no line undercuts no route does.
    module _ (new : List ℕ) (from : DeliveredFrom l.board (size_in l S) row new) where
      along : (t : ℕ) → t < sites_of q → (i k y : ℕ) → k < sites_of q → by_sends (sending q S) (sites_of q) i k t ≡ some y → get_or new t 0 ≤ get_or new k 0 + y
      along t h zero k y low e = let w = none_sent (sending q S) (sites_of q) k t y e in rw w.0 (omega arith)
      along t h (suc i) k y low e =
          let way = first_send (sending q S) (sites_of q) t i k y e in
          let m : ℕ = next_site (sending q S) (sites_of q) i k t in
          let over : line_in l.board (size_in l S) k m ≡ way.1.one =
          shows_some dearest_line _ (sending q S k m) way.1.one way.1.one_is (line_shows q l laid S k m low (omega (arith, way.0, laid.valid.sites_most))) in
          omega (
            arith,
            over,
            way.1.made,
            from.uncut k m (omega (arith, laid.board.sites)) (omega (arith, laid.board.sites, way.0)),
            along t h i m way.1.other way.0 way.1.other_is,
          )

      most : (t : ℕ) → t < sites_of q → get_or new t 0 ≤ mark (delivered combine q S t)
      most t h = go (delivered combine q S t) refl
        where
          go : (c : Cost) → delivered combine q S t ≡ c → get_or new t 0 ≤ mark c
          go none e = from.between.marked.most t (omega (arith, laid.valid.sites_most))
          go (some c) e =
              let found = least_found (by_site (start_cost combine q S) q S t) (sites_of q) c (sym (delivered_started combine q laid.valid S t s) ∙ e) in
              let k : ℕ = lowest_at (by_site (start_cost combine q S) q S t) (sites_of q) in
              let sum = both_found ◌+◌ (start_cost combine q S k) (carriage q S k t) c found.1 in
              let sent = fewest (sending q S) (sites_of q) k t sum.other sum.other_is in
              omega (
                arith,
                sum.made,
                along t h (fewest_sends (sending q S) (sites_of q) k t) k sum.other found.0 sent.1,
                from.between.below k (omega (arith, laid.board.sites, found.0)),
                is k found.0,
                ap mark sum.one_is,
              )

      pub delivered_is : (t : ℕ) → t < sites_of q → get_or new t 0 ≡ mark (delivered combine q S t)
      delivered_is t h =
          le_antisymm (most t h)
          (from.between.greatest (λ (t : ℕ). mark (delivered combine q S t)) (λ u low. start_within u (omega (arith, laid.board.sites)))
          (λ m u low high. delivered_uncut m u (omega (arith, laid.board.sites)) (omega (arith, laid.board.sites))) t (omega (arith, laid.board.sites)))

  module _ (filled : Filled combine q l.places l.work S) where
    -- What filling the cells of S asks, and the cells that it gives.
    pub startable : Startable l (join_bits q.joins S q.joins.count) S
    startable =
        record {
          set_in = set_low q laid.valid S low_set;
          alone = one_of_none q.joins (relations_of q) laid.valid.tree S s;
          joinable = joinable combine C q l laid S s filled;
          carriable = carriable;
        }

    pub start_is : (k : ℕ) → k < sites_of q → start_in combine l (join_bits q.joins S q.joins.count) S k ≡ mark (start_cost combine q S k)
    unfolding start_in start_cost bare_at
    start_is k site = rw (none_is_one q.joins (relations_of q) laid.valid.tree S s) (go (eqb (ones S) 1) refl)
      where
        go : (o : Bool) → eqb (ones S) 1 ≡ o →
            pick o (pick (eqb (bit (homes_at l.board (count_trailing_zeros 64 S)) k) 1) 0 none_mark) (joined_in combine l (join_bits q.joins S q.joins.count) S k)
            ≡ mark (pick o (pick (eqb k (home q (only q S))) (some 0) none) (joined combine q S k))
        go true e =
            let one : ones S ≡ 1 = eqb-true (ones S) 1 e in
            rw (only_is q laid.valid S low_set one, laid.board.homes (only q S) (lowest_below (relations_of q) S (one_some S one) low_set))
            (home_bit (home q (only q S)) k)
        go false e = joined_is combine C q l laid S s filled k site

    pub cells_are : (new : List ℕ) → DeliveredFrom l.board (size_in l S) (start_in combine l (join_bits q.joins S q.joins.count) S) new → (t : ℕ) → t < sites_of q →
        get_or new t 0 ≡ mark (delivered combine q S t)
    cells_are new from t low = delivered_is (start_in combine l (join_bits q.joins S q.joins.count) S) start_is new from t low
