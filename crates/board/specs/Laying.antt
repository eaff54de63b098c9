-- What laying out the board does, row by row: which lanes a row gets, and which entries stay as they were.
use Rattle.std.specs.Prelude.{ℕ, ◌+◌, ◌*◌, ◌^◌, ◌≤◌, ◌<◌, ◌≡◌, List, eqb, length, get_or}
use Rattle.relations.specs.Growth.{first, second}
use Rattle.relations.specs.Trees.{side}
use Rattle.relations.specs.Code.{ends_of}
use Rattle.query.specs.declared.Query.{Query}
use Rattle.query.specs.Choice.{pick}
use Rattle.query.specs.Query.{home, join_rate}
use Rattle.query.specs.Spared.{spared}
use Rattle.board.specs.Figures.{none_mark}
use Rattle.board.specs.Board.{entries, lane, homes_at, fixed_of, spareable_of, line_fixed_of, line_rate_of}

-- Every entry before lo and from hi on is as it was.
pub record Kept (old new : List ℕ) (lo hi : ℕ) : Type 0 where
  pub long : length new ≡ length old
  pub below : (j : ℕ) → j < lo → get_or new j 0 ≡ get_or old j 0
  pub above : (j : ℕ) → hi ≤ j → get_or new j 0 ≡ get_or old j 0

-- The first m lanes of row i are g 0, g 1, ..; all outside the row is as it was.
pub record Laid (old new : List ℕ) (i : ℕ) (g : ℕ → ℕ) (m : ℕ) : Type 0 where
  pub kept : Kept old new (8 * i) (8 * i + 8)
  pub each : (k : ℕ) → k < m → lane new i k ≡ g k

-- The m rows from row i on are g 0, g 1, ..
abbrev pub Rows : List ℕ → ℕ → (ℕ → ℕ → ℕ) → ℕ → Type 0
Rows b i g m = (r : ℕ) → r < m → (k : ℕ) → k < 8 → lane b (i + r) k ≡ g r k

-- An amount where its flag is set, else none.
abbrev pub if_flagged : ℕ → ℕ → ℕ
if_flagged flag amount = pick (eqb flag 1) amount none_mark

-- The rows of the joins and of joining are laid; all after these rows is as it was.
pub record JoiningLaid (old new : List ℕ) (q : Query) : Type 0 where
  pub long : length new ≡ entries
  pub later : (j : ℕ) → 32 ≤ j → get_or new j 0 ≡ get_or old j 0
  pub ends_row : (e : ℕ) → e < q.joins.count → lane new 0 e ≡ ends_of q.joins e
  pub sides_row : (e : ℕ) → e < q.joins.count → lane new 1 e ≡ side q.joins (q.joins.count + 1) e
  pub fixed_row : (k : ℕ) → k < 8 → lane new 2 k ≡ fixed_of q k
  pub rate_row : (k : ℕ) → k < 8 → lane new 3 k ≡ join_rate q k

-- The rows and the homes of the first m relations are laid, what can be spared beside what the rows had; all before these rows and between them and
-- the homes is as it was.
pub record RelationsLaid (old new : List ℕ) (q : Query) (m : ℕ) : Type 0 where
  pub long : length new ≡ length old
  pub before : (j : ℕ) → j < 32 → get_or new j 0 ≡ get_or old j 0
  pub between : (j : ℕ) → 8 * (4 + m) ≤ j → j < 304 → get_or new j 0 ≡ get_or old j 0
  pub spareables : Rows new 4 (λ (r k : ℕ). spared (lane old (4 + r) k) (spareable_of q r k)) m
  pub homes : (r : ℕ) → r < m → homes_at new r ≡ 2 ^ home q r

-- The rows of the first m joins are laid, with what can be spared of both relations beside what the rows had; all outside these rows is as it was.
pub record PairsLaid (old new : List ℕ) (q : Query) (m : ℕ) : Type 0 where
  pub kept : Kept old new 240 (8 * (30 + m))
  pub pairs : Rows new 30 (λ (e k : ℕ). spared (spared (lane old (30 + e) k) (spareable_of q (first q.joins e) k)) (spareable_of q (second q.joins e) k)) m

-- The rows of the lines of the first m senders are laid; all before and after these rows is as it was.
pub record LinesLaid (old new : List ℕ) (q : Query) (m : ℕ) : Type 0 where
  pub kept : Kept old new 112 240
  pub fixed_rows : Rows new 14 (line_fixed_of q) m
  pub rate_rows : Rows new 22 (line_rate_of q) m
