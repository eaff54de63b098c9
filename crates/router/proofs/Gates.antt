-- The gate of the writer: only a site that has cost no more than the least figure can have it, so the lowest of these has it where one send from there
-- makes it up; and where that send costs the carriage, it is the route, since no route has fewer sends.
use Prim.Native.Nat.{ℕ, zero, suc, ◌+◌, ◌≤◌, ◌<◌}
use native.Mathlib.Nat.{le_antisymm}
use native.Mathlib.Decide.{dec_lt}
use native.Mathlib.Omega.{arith}
use mathlib.Core.Path.{◌≡◌, refl, sym, ap, ◌∙◌}
use mathlib.Core.List.{List, [], ◌∷◌}
use Rattle.tables.specs.Written.{send_steps, step_bytes}
use Rattle.board.specs.declared.figures.Choice.{Choice}
use Rattle.board.specs.Figures.{none_mark, least_of, place_of}
use Rattle.board.specs.Board.{sites_at}
use Rattle.sender.specs.Delivering.{line_in}
use Rattle.router.specs.Routing.{first_to, by_sends_in, carriage_in, stops_in, route_in, Carried, site_trial, site_in, SiteFor}
use Rattle.router.proofs.LeastPlaces.{least_at, least_below, place_first}
use Rattle.router.proofs.FewestSends.{stays_none, away_none, one_below, one_least, carriage_below, sends_first}

module _ (b : List ℕ) (size t : ℕ) where
  abbrev s : ℕ
  s = sites_at b

  pub route_stays : (k : ℕ) → k < s → k ≡ t → route_in b size k t ≡ []
  unfolding stops_in
  route_stays k low e =
      let none : carriage_in b size k t ≡ 0 = omega (arith, carriage_below b size t 0 k (omega arith), stays_none b size t k e) in
      rw (sends_first b size t 0 k (omega arith) (stays_none b size t k e ∙ sym none) (omega arith) (λ j h. absurd (omega arith)))

  pub route_direct : (k c : ℕ) → k < s → t < s → (k ≡ t → ⊥) → c ≡ line_in b size k t → Carried b size k t c → route_in b size k t ≡ t ∷ []
  unfolding stops_in
  route_direct k c low to away line carried =
      rw (sends_first b size t 1 k (omega arith) one (omega (arith, carried.is, carried.some)) none_fewer) (ap (λ (m : ℕ). m ∷ []) next)
    where
      one : by_sends_in b size t 1 k ≡ carriage_in b size k t
      one = le_antisymm (omega (arith, one_below b size t k to, carried.is)) (carriage_below b size t 1 k (omega arith))

      none_fewer : (j : ℕ) → j < 1 → by_sends_in b size t j k ≡ carriage_in b size k t → ⊥
      none_fewer zero h e = omega (arith, away_none b size t k away, carried.is, carried.some)
      none_fewer (suc j) h e = omega arith

      least : least_of (first_to b size k (by_sends_in b size t 0)) s ≡ c
      least = one_least b size t k ∙ one ∙ sym carried.is

      next : place_of (first_to b size k (by_sends_in b size t 0)) s ≡ t
      next =
          place_first (first_to b size k (by_sends_in b size t 0)) s t to (omega (arith, stays_none b size t t refl, least)) (omega (arith, stays_none b size t t refl, carried.some))
          (λ i h. omega (arith, away_none b size t i (λ e. omega arith), least, carried.some))

  pub direct_bytes : (k c x : ℕ) → k < s → t < s → (k ≡ t → ⊥) → x ≡ line_in b size k t → x ≡ c → Carried b size k t c → step_bytes (send_steps (route_in b size k t)) ≡ 2 ∷ (t ∷ [])
  direct_bytes k c x low to away line same carried = ap (λ (ms : List ℕ). step_bytes (send_steps ms)) (route_direct k c low to away (sym same ∙ line) carried)

  -- The gate.
  module _ (row : ℕ → ℕ) (figure : ℕ) (is : figure ≡ least_of (site_trial row b size t) s) (some : figure < none_mark) where
    at_site : (k : ℕ) → site_trial row b size t k ≡ row k + carriage_in b size k t
    unfolding site_trial
    at_site k = refl

    -- The site that the routes choose.
    pub chosen_some : (site_in row b size t < s) × (row (site_in row b size t) + carriage_in b size (site_in row b size t) t ≡ figure)
    chosen_some = let found = least_at (site_trial row b size t) s (omega arith) in (found.0, sym (at_site (site_in row b size t)) ∙ found.1 ∙ sym is)

    pub site_chosen : (k : ℕ) → k ≡ site_in row b size t → (k < s) × (row k ≤ figure)
    site_chosen k e = rw e (chosen_some.0, omega (arith, chosen_some.1))

    pub first_listed : (k : ℕ) → ((i : ℕ) → i < k → figure < row i) → k < s
    first_listed k before = go (dec_lt (site_in row b size t) k)
      where
        go : Dec (site_in row b size t < k) → k < s
        go (yes l) = absurd (omega (arith, before (site_in row b size t) l, chosen_some.1))
        go (no l) = omega (arith, chosen_some.0)

    pub gate : (k c : ℕ) → k < s → ((i : ℕ) → i < k → figure < row i) → carriage_in b size k t ≤ c → row k + c ≡ figure → k ≡ site_in row b size t
    gate k c low before most made =
        let least : site_trial row b size t k ≡ least_of (site_trial row b size t) s =
        le_antisymm (omega (arith, at_site k)) (least_below (site_trial row b size t) s k low) in
        sym (place_first (site_trial row b size t) s k low least (omega arith) (λ i h. omega (arith, at_site i, before i h)))

    pub site_carried : (c : Choice) → SiteFor row b size t figure c → c.figure ≡ carriage_in b size c.at t
    site_carried c f =
        let there : row c.at + carriage_in b size c.at t ≡ figure = rw f.at_is chosen_some.1 in
        omega (arith, f.carried, there)
