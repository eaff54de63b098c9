-- What lines charge, as the board has them; and what is delivered at each site by way of them, from what has been spent at the sites where a result can
-- start from. That these are the tables' figures is shown where cells are filled.
use Rattle.std.specs.Prelude.{ℕ, ◌+◌, ◌≤◌, ◌<◌, ◌≡◌, List, get_or}
use Rattle.relations.specs.Sets.{bit}
use Rattle.query.specs.Prices.{line_charge}
use Rattle.board.specs.Figures.{none_mark, Marked}
use Rattle.board.specs.Board.{line_fixed_at, line_rate_at, sites_at}

-- What the line from site k to site t charges for a size.
unfoldable pub line_in : List ℕ → (size k t : ℕ) → ℕ
line_in b size k t = line_charge (line_fixed_at b k t) (line_rate_at b k t) size

-- What lines ask.
pub record Carriable (b : List ℕ) (size : ℕ) : Type 0 where
  pub few : sites_at b ≤ 8
  pub fixed_most : (k t : ℕ) → k < sites_at b → t < 8 → line_fixed_at b k t ≤ none_mark
  pub rate_most : (k t : ℕ) → k < sites_at b → t < 8 → line_rate_at b k t ≤ 1_000
  pub size_most : size ≤ 1_000_000_000

-- Figures at the sites that no line undercuts: sent on over a line, none gets below what stands there.
abbrev pub Uncut : List ℕ → ℕ → (ℕ → ℕ) → Type 0
Uncut b size D = (m t : ℕ) → m < sites_at b → t < sites_at b → D t ≤ D m + line_in b size m t

-- A row is nowhere above what has been spent, and nowhere below any figures that no line undercuts and that are nowhere above it either.
pub record Between (b : List ℕ) (size : ℕ) (spent : ℕ → ℕ) (row : List ℕ) : Type 0 where
  pub marked : Marked row
  pub below : (t : ℕ) → t < sites_at b → get_or row t 0 ≤ spent t
  pub greatest : (D : ℕ → ℕ) → ((t : ℕ) → t < sites_at b → D t ≤ spent t) → Uncut b size D → (t : ℕ) → t < sites_at b → D t ≤ get_or row t 0

-- What is delivered at each site: of all figures that no line undercuts, and that are nowhere above what has been spent, the greatest.
pub record DeliveredFrom (b : List ℕ) (size : ℕ) (spent : ℕ → ℕ) (row : List ℕ) : Type 0 where
  pub between : Between b size spent row
  pub uncut : Uncut b size (λ (t : ℕ). get_or row t 0)

-- One of some sites, which are given as bits, at which a row has the least figure of these.
pub record Nearest (row : List ℕ) (left m : ℕ) : Type 0 where
  pub among : bit left m ≡ 1
  pub least : (t : ℕ) → bit left t ≡ 1 → get_or row m 0 ≤ get_or row t 0
