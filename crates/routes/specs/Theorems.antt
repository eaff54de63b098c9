-- What is proved of routes, whatever the lines cost and however many sites there are. The proofs are in proofs/.
use Rattle.std.specs.Prelude.{ℕ, ◌+◌, ◌≤◌, ◌<◌, ◌≡◌, List, [], ◌∷◌, length}
use Rattle.query.specs.Cost.{Cost, some, AtMost}
use Rattle.routes.specs.Routes.{route_cost, last_site, cheapest_route, fewest_sends, stops}

-- A route's sites are listed.
abbrev pub AllBelow : ℕ → List ℕ → Type 0
AllBelow s [] = Unit {0}
AllBelow s (m ∷ ms) = (m < s) × AllBelow s ms

-- No route is cheaper than the cheapest, however many sends it has; and none that is as cheap has fewer sends.
abbrev pub NoneCheaper : Type 0
NoneCheaper =
    (line : ℕ → ℕ → Cost) (s k : ℕ) (ms : List ℕ) (x : ℕ) → k < s → AllBelow s ms → AtMost (route_cost line k ms) x →
    AtMost (cheapest_route line s k (last_site k ms)) x

abbrev pub NoneShorter : Type 0
NoneShorter =
    (line : ℕ → ℕ → Cost) (s k : ℕ) (ms : List ℕ) (c : ℕ) → k < s → AllBelow s ms → cheapest_route line s k (last_site k ms) ≡ some c →
    AtMost (route_cost line k ms) c → fewest_sends line s k (last_site k ms) ≤ length ms

-- The route that is taken leads to t over listed sites, costs just that, has as many sends, and fewer than there are sites.
pub record Taken (line : ℕ → ℕ → Cost) (s k t c : ℕ) (ms : List ℕ) : Type 0 where
  pub listed : AllBelow s ms
  pub there : last_site k ms ≡ t
  pub cost : route_cost line k ms ≡ some c
  pub sends : length ms ≡ fewest_sends line s k t
  pub few : length ms < s

abbrev pub RouteTaken : Type 0
RouteTaken =
    (line : ℕ → ℕ → Cost) (s k t c : ℕ) → cheapest_route line s k t ≡ some c → Taken line s k t c (stops line s (fewest_sends line s k t) k t)

-- A send more at the end of a route never makes less than the cheapest route.
abbrev pub Onward : Type 0
Onward =
    (line : ℕ → ℕ → Cost) (s k m t x y : ℕ) → k < s → m < s → t < s → AtMost (cheapest_route line s k m) x → AtMost (line m t) y →
    AtMost (cheapest_route line s k t) (x + y)

-- Both of a route with more sends than there are sites, five to and fro between two: no limit on sends stands in either.
pub record ToAndFro (line : ℕ → ℕ → Cost) : Type 0 where
  pub no_cheaper : (x : ℕ) → AtMost (route_cost line 0 (1 ∷ 0 ∷ 1 ∷ 0 ∷ 1 ∷ [])) x → AtMost (cheapest_route line 2 0 1) x
  pub no_shorter : (c : ℕ) → cheapest_route line 2 0 1 ≡ some c → AtMost (route_cost line 0 (1 ∷ 0 ∷ 1 ∷ 0 ∷ 1 ∷ [])) c → fewest_sends line 2 0 1 ≤ 5
