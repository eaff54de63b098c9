-- Routes as the writer works them out, in figures over the board: `proofs/` shows that they are the definition's.
use Rattle.std.specs.Prelude.{ℕ, zero, suc, ◌+◌, ◌*◌, ◌≤◌, ◌<◌, ◌≡◌, List, [], ◌∷◌, eqb, length, get_or}
use Rattle.query.specs.Choice.{pick}
use Rattle.board.specs.declared.figures.Choice.{Choice}
use Rattle.board.specs.Figures.{none_mark, least_of, place_of}
use Rattle.board.specs.Board.{sites_at}
use Rattle.sender.specs.Delivering.{line_in}

-- The figure of the cheapest route of just i sends from k to t; and of such a route of one send more whose first send goes to m, where `rest` has the figures of i sends.
abbrev pub first_to : List ℕ → (size k : ℕ) → (ℕ → ℕ) → ℕ → ℕ
first_to b size k rest m = line_in b size k m + rest m

unfoldable pub by_sends_in : List ℕ → (size t i k : ℕ) → ℕ
by_sends_in b size t zero k = pick (eqb k t) 0 none_mark
by_sends_in b size t (suc i) k = least_of (first_to b size k (by_sends_in b size t i)) (sites_at b)

-- The least of fewer sends than there are sites, the fewest sends of it, and the sites to which they go.
unfoldable pub carriage_in : List ℕ → (size k t : ℕ) → ℕ
carriage_in b size k t = least_of (λ (i : ℕ). by_sends_in b size t i k) (sites_at b)

unfoldable pub sends_in : List ℕ → (size k t : ℕ) → ℕ
sends_in b size k t = place_of (λ (i : ℕ). by_sends_in b size t i k) (sites_at b)

unfoldable pub stops_in : List ℕ → (size t i k : ℕ) → List ℕ
stops_in b size t zero k = []
stops_in b size t (suc i) k = let m = place_of (first_to b size k (by_sends_in b size t i)) (sites_at b) in m ∷ stops_in b size t i m

abbrev pub route_in : List ℕ → (size k t : ℕ) → List ℕ
route_in b size k t = stops_in b size t (sends_in b size k t) k

-- The carriage from k to t with at most one send: nothing where it stays, else the line.
unfoldable pub once_sent : List ℕ → (size k t : ℕ) → ℕ
once_sent b size k t = pick (eqb k t) 0 (line_in b size k t)

-- A number that is the carriage from k to t: there is a route.
pub record Carried (b : List ℕ) (size k t carried : ℕ) : Type 0 where
  pub is : carried ≡ carriage_in b size k t
  pub some : carried < none_mark

-- A table of 64 figures, none above that of none.
pub record Figured (table : List ℕ) : Type 0 where
  pub long : length table ≡ 64
  pub most : (j : ℕ) → j < 64 → get_or table j 0 ≤ none_mark

-- With the figures of i + 1 sends from the first n sites, by those of i sends; all before is as it was.
pub record SendsAdded (b : List ℕ) (size i : ℕ) (old new : List ℕ) (n : ℕ) : Type 0 where
  pub figured : Figured new
  pub before : (j : ℕ) → j < 8 * (i + 1) → get_or new j 0 ≡ get_or old j 0
  pub each : (k : ℕ) → k < n → get_or new (8 * (i + 1) + k) 0 ≡ least_of (first_to b size k (λ (m : ℕ). get_or old (8 * i + m) 0)) (sites_at b)

-- The first m rows of a table with the figures of 0, 1, .. sends to t, a lane a site.
pub record RoutesTo (b : List ℕ) (size t m : ℕ) (table : List ℕ) : Type 0 where
  pub figured : Figured table
  pub each : (i k : ℕ) → i < m → k < sites_at b → get_or table (8 * i + k) 0 ≡ by_sends_in b size t i k

-- The figure at t by way of site k, from what has been spent at each site; the least of these, and the lowest site of it.
unfoldable pub site_trial : (ℕ → ℕ) → List ℕ → (size t k : ℕ) → ℕ
site_trial row b size t k = row k + carriage_in b size k t

abbrev pub site_in : (ℕ → ℕ) → List ℕ → (size t : ℕ) → ℕ
site_in row b size t = place_of (site_trial row b size t) (sites_at b)

-- The choice of a site by which a figure at t is reached, with the carriage from there: it is the lowest such site where the figure is the least.
pub record SiteFor (row : ℕ → ℕ) (b : List ℕ) (size t figure : ℕ) (c : Choice) : Type 0 where
  pub at_is : c.at ≡ site_in row b size t
  pub carried : row c.at + c.figure ≡ figure
