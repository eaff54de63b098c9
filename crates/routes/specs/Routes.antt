-- Routes: sends that follow one another, each over an open line to another site. The cheapest route, of those the one with the fewest sends, and of
-- those the one with the lowest next site, seen from each sender in turn. The lines' prices for one size, and the number of sites, are parameters.
use Rattle.std.specs.Prelude.{ℕ, zero, suc, ◌*◌, List, [], ◌∷◌, eqb}
use Rattle.query.specs.declared.Query.{Query}
use Rattle.query.specs.Choice.{pick}
use Rattle.query.specs.Cost.{Cost, none, some, plus}
use Rattle.query.specs.Query.{sites_of}
use Rattle.query.specs.Prices.{sending, dearest_line}
use Rattle.routes.specs.Least.{least, lowest_at}

-- What a route costs that goes from k to some sites in turn, a send from a to b costing `line a b`; and where it ends.
unfoldable pub route_cost : (ℕ → ℕ → Cost) → ℕ → List ℕ → Cost
route_cost line k [] = some 0
route_cost line k (m ∷ ms) = plus (line k m) (route_cost line m ms)

abbrev pub last_site : ℕ → List ℕ → ℕ
last_site k [] = k
last_site k (m ∷ ms) = last_site m ms

-- What the cheapest route from k to t of just i sends costs, over s sites. No send leads nowhere; of more, the first goes to some site m, and the others
-- on from there.
unfoldable pub by_sends : (ℕ → ℕ → Cost) → (s i k t : ℕ) → Cost
by_sends line s zero k t = pick (eqb k t) (some 0) none
by_sends line s (suc i) k t = least (λ m. plus (line k m) (by_sends line s i m t)) s

-- The cheapest of fewer than s sends: no route of more is cheaper (`NoneCheaper`). And the fewest sends of which a route is as cheap.
unfoldable pub cheapest_route : (ℕ → ℕ → Cost) → (s k t : ℕ) → Cost
cheapest_route line s k t = least (λ i. by_sends line s i k t) s

unfoldable pub fewest_sends : (ℕ → ℕ → Cost) → (s k t : ℕ) → ℕ
fewest_sends line s k t = lowest_at (λ i. by_sends line s i k t) s

-- Where the first of suc i sends goes: the lowest site by which the rest of i sends makes it cheapest.
unfoldable pub next_site : (ℕ → ℕ → Cost) → (s i k t : ℕ) → ℕ
next_site line s i k t = lowest_at (λ m. plus (line k m) (by_sends line s i m t)) s

-- The sites to which the sends of such a route go, in order.
unfoldable pub stops : (ℕ → ℕ → Cost) → (s i k t : ℕ) → List ℕ
stops line s zero k t = []
stops line s (suc i) k t = let m = next_site line s i k t in m ∷ stops line s i m t

-- The carriage of P from k to t: nothing where it stays, the cheapest route else, none where there is none. And the sites to which its sends go.
abbrev pub carriage : Query → ℕ → ℕ → ℕ → Cost
carriage q P k t = cheapest_route (sending q P) (sites_of q) k t

abbrev pub route : Query → ℕ → ℕ → ℕ → List ℕ
route q P k t = stops (sending q P) (sites_of q) (fewest_sends (sending q P) (sites_of q) k t) k t

-- What a carriage costs at most: it takes at most seven lines.
abbrev pub dearest_carriage : ℕ
dearest_carriage = 7 * dearest_line
