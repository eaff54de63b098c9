-- What a trial is: two parts of a subquery, each delivered at a site, and the price of their join there. And the row of figures that the loops
-- work out from trials, which a subquery starts from. `proofs/` shows that those figures are the two tables'.
use Rattle.std.specs.Prelude.{ℕ, ◌+◌, ◌-◌, ◌≤◌, ◌<◌, ◌≡◌, List, eqb, length, get_or}
use Rattle.std.specs.Int.Count.{ones, count_trailing_zeros}
use Rattle.relations.specs.declared.splitting.Parts.{Parts}
use Rattle.relations.specs.Code.{most_sets}
use Rattle.relations.specs.Sets.{bit}
use Rattle.relations.specs.Splits.{parts_by}
use Rattle.query.specs.Choice.{pick}
use Rattle.query.specs.Query.{UpTo}
use Rattle.query.specs.Prices.{join_charge}
use Rattle.board.specs.Figures.{none_mark, least_of}
use Rattle.filler.specs.Cells.{place_in, reach}
use Rattle.board.specs.Board.{lane, side_at, fixed_at, rate_at, spared_row, homes_at, sites_at}
use Rattle.sender.specs.Delivering.{Carriable}
use Rattle.filler.specs.declared.trials.Tables.{Tables}

-- What the loops are lent: the board, the sizes, the places of the subqueries' first cells, and the work area.
pub record Lent : Type 0 where
  pub board : List ℕ
  pub sizes : List ℕ
  pub places : List ℕ
  pub work : List ℕ

abbrev pub lent : (board sizes places work : List ℕ) → Lent
lent board sizes places work = record { board = board; sizes = sizes; places = places; work = work }

abbrev pub lent_of : Tables → Lent
lent_of t = lent t.board.now t.sizes.now t.places.now t.work.now

abbrev pub size_in : Lent → ℕ → ℕ
size_in l S = get_or l.sizes S 0

abbrev pub cell_in : Lent → ℕ → ℕ → ℕ
cell_in l S k = get_or l.work (place_in l.places S k) 0

-- The price of joining P and R at site k: the fixed amount, and the rate for what is read and for the result. Row i of the board has what is spared.
abbrev pub price_in : (board sizes : List ℕ) → (P R i k : ℕ) → ℕ
price_in b sizes P R i k = join_charge (fixed_at b k) (rate_at b k) (get_or sizes P 0 + get_or sizes R 0 - lane b i k) (get_or sizes (P + R) 0)

-- What a price asks.
pub record Priced (b sizes : List ℕ) (P R i k : ℕ) : Type 0 where
  pub site_in : k < 8
  pub row_in : i < 38
  pub set_in : P + R < most_sets
  pub fixed_most : fixed_at b k ≤ none_mark
  pub rate_most : rate_at b k ≤ 1_000
  pub spared_most : lane b i k ≤ get_or sizes P 0 + get_or sizes R 0
  pub sizes_most : UpTo 1_000_000_000 sizes

-- The trial of joining P and R at site k.
unfoldable pub trial_of : (ℕ → ℕ → ℕ) → Lent → (P R i k : ℕ) → ℕ
trial_of combine l P R i k = combine (cell_in l P k) (cell_in l R k) + price_in l.board l.sizes P R i k

-- What a trial asks, so that its sums keep below 2^62.
pub record Triable (l : Lent) (P R i k : ℕ) : Type 0 where
  pub priced : Priced l.board l.sizes P R i k
  pub first_place : place_in l.places P k < length l.work
  pub second_place : place_in l.places R k < length l.work
  pub first_cell : cell_in l P k ≤ none_mark
  pub second_cell : cell_in l R k ≤ none_mark

-- The two parts of S by join e, whose side the board has.
abbrev pub parts_at : Lent → (S e : ℕ) → Parts
parts_at l S e = parts_by S (side_at l.board e)

-- The trial of join e of S, by its parts and by the row with what is spared where they are joined.
abbrev pub trial_by : (ℕ → ℕ → ℕ) → Lent → Parts → (e k : ℕ) → ℕ
trial_by combine l p e k = trial_of combine l p.first p.second (spared_row p.first p.second e) k

abbrev pub TriableBy : Lent → Parts → (e k : ℕ) → Type 0
TriableBy l p e k = Triable l p.first p.second (spared_row p.first p.second e) k

-- The figure of join e of S at site k, the joins in S given as bits: none where e is not among them.
unfoldable pub join_trial : (ℕ → ℕ → ℕ) → Lent → (joins S k e : ℕ) → ℕ
join_trial combine l joins S k e = pick (eqb (bit joins e) 1) (trial_by combine l (parts_at l S e) e k) none_mark

-- What the joins of a set ask.
pub record Joinable (l : Lent) (joins S : ℕ) : Type 0 where
  pub few : joins < 256
  pub some_site : 1 ≤ sites_at l.board
  pub few_sites : sites_at l.board ≤ 8
  pub each : (e k : ℕ) → e < 8 → k < reach (sites_at l.board) → bit joins e ≡ 1 → TriableBy l (parts_at l S e) e k

-- The row of the joins: the least at each site.
abbrev pub joined_in : (ℕ → ℕ → ℕ) → Lent → (joins S k : ℕ) → ℕ
joined_in combine l joins S k = least_of (join_trial combine l joins S k) 8

-- The row of one relation: nothing where it stands, none elsewhere.
unfoldable pub bare_at : ℕ → ℕ → ℕ
bare_at homes k = pick (eqb (bit homes k) 1) 0 none_mark

-- What S has cost at k where it can start from there: where its one relation stands, else where it is joined.
unfoldable pub start_in : (ℕ → ℕ → ℕ) → Lent → (joins S k : ℕ) → ℕ
start_in combine l joins S k = pick (eqb joins 0) (bare_at (homes_at l.board (count_trailing_zeros 64 S)) k) (joined_in combine l joins S k)

-- What a subquery's start asks: it has one relation where it has no join, its joins can be tried, and its figures sent.
pub record Startable (l : Lent) (joins S : ℕ) : Type 0 where
  pub set_in : S < most_sets
  pub alone : joins ≡ 0 → ones S ≡ 1
  pub joinable : Joinable l joins S
  pub carriable : Carriable l.board (size_in l S)
