-- Over a query's own board the writer's routes are the definition's: as cheap, of as many sends, to the same sites.
use Prim.Native.Nat.{ℕ, zero, suc, ◌+◌, ◌*◌, ◌≤◌, ◌<◌}
use native.Mathlib.Nat.{le_refl, suc-mul}
use native.Mathlib.Omega.{arith}
use mathlib.Core.Path.{◌≡◌, refl, sym, ap, subst, ◌∙◌}
use mathlib.Core.Bool.{Bool, true, false}
use mathlib.Core.List.{List, ◌∷◌}
use lib.Dec.{eqb}
use Rattle.query.specs.declared.Query.{Query}
use Rattle.query.specs.Choice.{pick}
use Rattle.query.specs.Cost.{Cost, none, some, plus}
use Rattle.relations.specs.Trees.{Subquery}
use Rattle.query.specs.Query.{relations_of, sites_of}
use Rattle.query.specs.Prices.{sending, dearest_line}
use Rattle.rules.specs.Combine.{Combines}
use Rattle.rules.proofs.Combinations.{plus_combines}
use Rattle.tables.specs.Tables.{by_site}
use Rattle.tables.specs.Theorems.{most_cost}
use Rattle.filler.proofs.Started.{start_cost}
use Rattle.filler.proofs.Columns.{start_up_to}
use Rattle.routes.proofs.Costs.{none_some, some_same}
use Rattle.routes.specs.Least.{Best, best}
use Rattle.routes.specs.Routes.{by_sends, cheapest_route, fewest_sends, next_site, stops, carriage, route, dearest_carriage}
use Rattle.board.specs.Figures.{none_mark, mark, least_of, place_of}
use Rattle.board.specs.Board.{sites_at}
use Rattle.filler.specs.Trials.{Lent, size_in}
use Rattle.sender.specs.Delivering.{line_in}
use Rattle.filler.specs.Filling.{LaidOut}
use Rattle.filler.proofs.Marks.{Shows, Kept, shows_mark, shows_both, kept_all}
use Rattle.filler.proofs.Boards.{line_shows}
use Rattle.router.proofs.LeastPlaces.{place_below}
use Rattle.router.specs.Routing.{site_trial, first_to, by_sends_in, carriage_in, sends_in, stops_in, route_in, Carried}

-- A figure that shows a cost under a limit shows it under a greater one.
shows_more : (n m x : ℕ) (c : Cost) → n ≤ m → Shows n x c → Shows m x c
shows_more n m x none l h = h
shows_more n m x (some c) l (e, h) = (e, omega arith)

-- A kept figure shows the best cost.
kept_shows : (n x i : ℕ) (b : Best) → Kept n b x i → Shows n x b.cost
kept_shows n x i b k = subst (λ (y : ℕ). Shows n y b.cost) (sym k.figure_is) (shows_mark n b.cost k.most)

module _ (q : Query) (l : Lent) (laid : LaidOut q l) (S t : ℕ) where
  abbrev b : List ℕ
  b = l.board

  abbrev size : ℕ
  size = size_in l S

  abbrev line : ℕ → ℕ → Cost
  line = sending q S

  -- By the first send of i + 1.
  first_kept : (i k : ℕ) → suc i * dearest_line < none_mark → k < sites_of q → ((m : ℕ) → m < sites_of q → Shows (i * dearest_line) (by_sends_in b size t i m) (by_sends line (sites_of q) i m t)) →
      Kept (suc i * dearest_line) (best (λ m. plus (line k m) (by_sends line (sites_of q) i m t)) (sites_of q))
      (least_of (first_to b size k (by_sends_in b size t i)) (sites_of q)) (place_of (first_to b size k (by_sends_in b size t i)) (sites_of q))
  first_kept i k few low shows =
      kept_all (suc i * dearest_line) few (λ m. plus (line k m) (by_sends line (sites_of q) i m t)) (first_to b size k (by_sends_in b size t i)) (sites_of q)
      (λ m h. shows_more (dearest_line + i * dearest_line) (suc i * dearest_line) (first_to b size k (by_sends_in b size t i) m) (plus (line k m) (by_sends line (sites_of q) i m t))
      (omega (arith, suc-mul i dearest_line))
      (shows_both ◌+◌ plus_combines dearest_line (i * dearest_line) (line_in b size k m) (by_sends_in b size t i m) (line k m) (by_sends line (sites_of q) i m t)
      (line_shows q l laid S k m low (omega (arith, laid.valid.sites_most))) (shows m h)))

  pub sends_show : (i k : ℕ) → i < 8 → k < sites_of q → Shows (i * dearest_line) (by_sends_in b size t i k) (by_sends line (sites_of q) i k t)
  unfolding by_sends_in by_sends
  sends_show zero k h low = go (eqb k t)
    where
      go : (o : Bool) → Shows (0 * dearest_line) (pick o 0 none_mark) (pick o (some 0) none)
      go true = (refl, omega arith)
      go false = le_refl _
  sends_show (suc i) k h low =
      rw laid.board.sites
      (kept_shows (suc i * dearest_line) _ _ _ (first_kept i k (omega arith) low (λ m n. sends_show i m (omega arith) n)))

  -- The next site.
  next_is : (i k : ℕ) → suc i < 8 → k < sites_of q → place_of (first_to b size k (by_sends_in b size t i)) (sites_at b) ≡ next_site line (sites_of q) i k t
  unfolding next_site
  next_is i k h low = rw laid.board.sites (first_kept i k (omega arith) low (λ m n. sends_show i m (omega arith) n)).at_is

  stops_are : (i k : ℕ) → i < 8 → k < sites_of q → stops_in b size t i k ≡ stops line (sites_of q) i k t
  unfolding stops_in stops
  stops_are zero k h low = refl
  stops_are (suc i) k h low =
      rw (next_is i k h low) (ap (λ (ms : List ℕ). next_site line (sites_of q) i k t ∷ ms) (stops_are i (next_site line (sites_of q) i k t) (omega arith) next_low))
    where
      next_low : next_site line (sites_of q) i k t < sites_of q
      next_low =
          subst (λ (m : ℕ). m < sites_of q) (next_is i k h low)
          (rw laid.board.sites (place_below (first_to b size k (by_sends_in b size t i)) (sites_of q) laid.valid.sites_some))

  -- The cheapest of all, and its sends.
  cheapest_kept : (k : ℕ) → k < sites_of q →
      Kept dearest_carriage (best (λ i. by_sends line (sites_of q) i k t) (sites_of q)) (least_of (λ (i : ℕ). by_sends_in b size t i k) (sites_of q))
      (place_of (λ (i : ℕ). by_sends_in b size t i k) (sites_of q))
  cheapest_kept k low =
      kept_all dearest_carriage (omega arith) (λ i. by_sends line (sites_of q) i k t) (λ (i : ℕ). by_sends_in b size t i k) (sites_of q)
      (λ i h. let few : i < 8 = omega (arith, laid.valid.sites_most) in
      shows_more (i * dearest_line) dearest_carriage (by_sends_in b size t i k) (by_sends line (sites_of q) i k t) (omega arith) (sends_show i k few low))

  pub carriage_shows : (k : ℕ) → k < sites_of q → Shows dearest_carriage (carriage_in b size k t) (carriage q S k t)
  unfolding carriage_in cheapest_route
  carriage_shows k low = rw laid.board.sites (kept_shows dearest_carriage _ _ _ (cheapest_kept k low))

  -- The carriage that a route costs.
  pub carried_of : (k c : ℕ) → k < sites_of q → carriage q S k t ≡ some c → Carried b size k t c
  carried_of k c low e = go (carriage q S k t) e (carriage_shows k low)
    where
      go : (x : Cost) → x ≡ some c → Shows dearest_carriage (carriage_in b size k t) x → Carried b size k t c
      go none e h = absurd (none_some c e)
      go (some y) e (is, few) = let same : y ≡ c = some_same y c e in record { is = omega arith; some = omega arith }

  sends_are : (k : ℕ) → k < sites_of q → sends_in b size k t ≡ fewest_sends line (sites_of q) k t
  unfolding sends_in fewest_sends
  sends_are k low = rw laid.board.sites (cheapest_kept k low).at_is

  sends_low : (k : ℕ) → k < sites_of q → sends_in b size k t < 8
  unfolding sends_in
  sends_low k low =
      rw laid.board.sites
      (omega (arith, place_below (λ (i : ℕ). by_sends_in b size t i k) (sites_of q) laid.valid.sites_some, laid.valid.sites_most))

  pub route_is : (k : ℕ) → k < sites_of q → route_in b size k t ≡ route q S k t
  route_is k low = stops_are (sends_in b size k t) k (sends_low k low) low ∙ ap (λ (i : ℕ). stops line (sites_of q) i k t) (sends_are k low)

-- From a row of what S has cost where it can start: the least figure at t is that of the least cost, and its site the same.
module _ (combine : ℕ → ℕ → ℕ) (C : Combines combine) (q : Query) (l : Lent) (laid : LaidOut q l) (S : ℕ) (s : Subquery q.joins (relations_of q) S) (row : ℕ → ℕ)
    (is : (k : ℕ) → k < sites_of q → row k ≡ mark (start_cost combine q S k)) (t : ℕ) where
  pub sites_kept : Kept (most_cost + dearest_carriage) (best (by_site (start_cost combine q S) q S t) (sites_of q))
      (least_of (site_trial row l.board (size_in l S) t) (sites_of q)) (place_of (site_trial row l.board (size_in l S) t) (sites_of q))
  unfolding site_trial
  sites_kept =
      kept_all (most_cost + dearest_carriage) (omega arith) (by_site (start_cost combine q S) q S t) (site_trial row l.board (size_in l S) t) (sites_of q)
      (λ k h. rw (is k h)
      (shows_both ◌+◌ plus_combines most_cost dearest_carriage (mark (start_cost combine q S k)) (carriage_in l.board (size_in l S) k t) (start_cost combine q S k) (carriage q S k t)
      (shows_mark most_cost (start_cost combine q S k) (start_up_to combine C q l laid S s k)) (carriage_shows q l laid S t k h)))
