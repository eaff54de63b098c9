-- How many sends the cheapest route has: no send where it stays, and else the first number of sends that costs the carriage. A search that adds the figures of
-- one send more each turn ends there, since a route has fewer sends than there are sites.
use Prim.Native.Nat.{ℕ, ◌+◌, ◌*◌, ◌≤◌, ◌<◌}
use native.Mathlib.Nat.{le_of_suc-le-suc, eq-or-lt_of_le}
use native.Mathlib.Numerals.{add-one}
use native.Mathlib.Decide.{ℕ_discrete, dec_lt}
use native.Mathlib.Omega.{arith}
use mathlib.Core.Path.{◌≡◌, refl, sym, ◌∙◌}
use mathlib.Core.Logic.{◌⊎◌, inl, inr}
use mathlib.Core.List.{List}
use lib.Dec.{eqb}
use lib.ListN.{get_or, set, replicate}
use borrow.Author.Tests.{eq-eqb, ne_eqb}
use Rattle.query.specs.Choice.{pick}
use Rattle.board.specs.Figures.{none_mark, least_of, place_of}
use Rattle.board.specs.Board.{sites_at}
use Rattle.sender.specs.Delivering.{line_in}
use Rattle.router.specs.Routing.{first_to, by_sends_in, carriage_in, sends_in, once_sent, Carried, SendsAdded, RoutesTo}
use Rattle.router.proofs.LeastPlaces.{least_at, least_below, place_first}
use Rattle.router.proofs.RouteTables.{routes_none, routes_more}

module _ (b : List ℕ) (size t : ℕ) where
  abbrev s : ℕ
  s = sites_at b

  -- Where it stays, there is no send.
  pub stays_none : (k : ℕ) → k ≡ t → by_sends_in b size t 0 k ≡ 0
  unfolding by_sends_in
  stays_none k e = rw (eq-eqb k t e)

  pub away_none : (k : ℕ) → (k ≡ t → ⊥) → by_sends_in b size t 0 k ≡ none_mark
  unfolding by_sends_in
  away_none k d = rw (ne_eqb k t d)

  pub one_below : (k : ℕ) → t < s → by_sends_in b size t 1 k ≤ line_in b size k t
  unfolding by_sends_in
  one_below k low = omega (arith, least_below (first_to b size k (by_sends_in b size t 0)) s t low, stays_none t refl)

  pub one_least : (k : ℕ) → least_of (first_to b size k (by_sends_in b size t 0)) s ≡ by_sends_in b size t 1 k
  unfolding by_sends_in
  one_least k = refl

  pub carriage_below : (i k : ℕ) → i < s → carriage_in b size k t ≤ by_sends_in b size t i k
  unfolding carriage_in
  carriage_below i k low = least_below (λ (i : ℕ). by_sends_in b size t i k) s i low

  pub once_stays : (k : ℕ) → k ≡ t → 0 ≡ once_sent b size k t
  unfolding once_sent
  once_stays k e = rw (eq-eqb k t e)

  pub once_away : (k : ℕ) → (k ≡ t → ⊥) → line_in b size k t ≡ once_sent b size k t
  unfolding once_sent
  once_away k d = rw (ne_eqb k t d)

  -- No carriage is above that of one send.
  pub once_most : (k : ℕ) → k < s → t < s → carriage_in b size k t ≤ once_sent b size k t
  unfolding once_sent
  once_most k low to = go (ℕ_discrete k t)
    where
      go : Dec (k ≡ t) → carriage_in b size k t ≤ pick (eqb k t) 0 (line_in b size k t)
      go (yes e) = rw (eq-eqb k t e) (omega (arith, carriage_below 0 k (omega arith), stays_none k e))
      go (no d) = rw (ne_eqb k t d) (omega (arith, carriage_below 1 k (omega arith), one_below k to))

  -- So many sends as the first that cost the carriage.
  pub sends_first : (i k : ℕ) → i < s → by_sends_in b size t i k ≡ carriage_in b size k t → carriage_in b size k t < none_mark →
      ((j : ℕ) → j < i → by_sends_in b size t j k ≡ carriage_in b size k t → ⊥) → sends_in b size k t ≡ i
  unfolding carriage_in sends_in
  sends_first i k low is some before =
      place_first (λ (i : ℕ). by_sends_in b size t i k) s i low is (omega arith)
      (λ j h. lower j (least_below (λ (i : ℕ). by_sends_in b size t i k) s j (omega arith)) (before j h))
    where
      lower : (j : ℕ) → least_of (λ (i : ℕ). by_sends_in b size t i k) s ≤ by_sends_in b size t j k → (by_sends_in b size t j k ≡ least_of (λ (i : ℕ). by_sends_in b size t i k) s → ⊥) →
          least_of (λ (i : ℕ). by_sends_in b size t i k) s < by_sends_in b size t j k
      lower j l d = elim (eq-or-lt_of_le l) [ inl e ↦ absurd (d (sym e)) | inr h ↦ h ]

  -- As long as fewer sends cost more, there is one more to try.
  pub sends_on : (i k c : ℕ) → Carried b size k t c → ((j : ℕ) → j < i → by_sends_in b size t j k ≡ carriage_in b size k t → ⊥) →
      (by_sends_in b size t i k ≡ carriage_in b size k t → ⊥) → i + 1 < s
  unfolding carriage_in
  sends_on i k c carried before here =
      let found = least_at (λ (i : ℕ). by_sends_in b size t i k) s (omega (arith, carried.is, carried.some)) in
      let p : ℕ = place_of (λ (i : ℕ). by_sends_in b size t i k) s in
      go p found.0 found.1 (dec_lt p i) (ℕ_discrete p i)
    where
      go : (p : ℕ) → p < s → by_sends_in b size t p k ≡ least_of (λ (i : ℕ). by_sends_in b size t i k) s → Dec (p < i) → Dec (p ≡ i) → i + 1 < s
      go p low is (yes l) d = absurd (before p l is)
      go p low is (no l) (yes e) = absurd (here (rw e at is))
      go p low is (no l) (no d) = omega arith

  -- A search for the fewest sends from k: the table has the figures of up to i sends, and fewer than i cost more than the carriage.
  pub record Searching (k i : ℕ) (table : List ℕ) : Type 0 where
    pub listed : i < s
    pub rows : RoutesTo b size t (i + 1) table
    pub dearer : (j : ℕ) → j < i → by_sends_in b size t j k ≡ carriage_in b size k t → ⊥

  pub searching_none : (k : ℕ) → t < s → s ≤ 8 → Searching k 0 (set (replicate 64 none_mark) t 0)
  searching_none k to few = record { listed = omega arith; rows = routes_none b size t (omega arith) few; dearer = λ j h. absurd (omega arith) }

  module _ (k i c : ℕ) (table : List ℕ) (few : s ≤ 8) (low : k < s) (carried : Carried b size k t c) (found : Searching k i table) where
    here : get_or table (8 * i + k) 0 ≡ by_sends_in b size t i k
    here = found.rows.each i k (omega arith) low

    pub searching_more : (get_or table (8 * i + k) 0 ≡ c → ⊥) → (i + 1 < s) × ((new : List ℕ) → SendsAdded b size i table new s → Searching k (i + 1) new)
    searching_more other = (more, λ new a. record { listed = more; rows = routes_more b size t i (i + 1) table new refl few (omega (arith, more)) found.rows a; dearer = λ j h. last j (eq-or-lt_of_le (le_of_suc-le-suc (rw (add-one i) at h))) })
      where
        not_here : by_sends_in b size t i k ≡ carriage_in b size k t → ⊥
        not_here e = other (here ∙ e ∙ sym carried.is)

        more : i + 1 < s
        more = sends_on i k c carried found.dearer not_here

        last : (j : ℕ) → (j ≡ i) ⊎ (j < i) → by_sends_in b size t j k ≡ carriage_in b size k t → ⊥
        last j (inl e) is = not_here (rw e at is)
        last j (inr h) is = found.dearer j h is

    pub searched : get_or table (8 * i + k) 0 ≡ c → sends_in b size k t ≡ i
    searched e = sends_first i k found.listed (sym here ∙ e ∙ carried.is) (omega (arith, carried.is, carried.some)) found.dearer
