-- What the work area holds: the cells of the subqueries that were filled, and what filling all of them but the whole query leaves.
use Rattle.std.specs.Prelude.{ℕ, ◌≤◌, ◌<◌, ◌≡◌, List, length, get_or, drop}
use Rattle.relations.specs.Code.{most_sets}
use Rattle.relations.specs.Sets.{all}
use Rattle.relations.specs.Trees.{Subquery}
use Rattle.subqueries.specs.Table.{Tabled}
use Rattle.query.specs.declared.Query.{Query}
use Rattle.query.specs.Query.{relations_of, sites_of, Valid}
use Rattle.tables.specs.Tables.{delivered, joins_below}
use Rattle.tables.specs.Work.{cells_needed, place}
use Rattle.board.specs.Figures.{none_mark, mark}
use Rattle.board.specs.Board.{BoardOf}
use Rattle.filler.specs.Cells.{reach}
use Rattle.filler.specs.Trials.{Lent}

-- What is lent is a valid query's: its board and its sizes.
pub record LaidOut (q : Query) (l : Lent) : Type 0 where
  pub valid : Valid q
  pub board : BoardOf q l.board
  pub sizes : l.sizes ≡ q.sizes

-- The cells of every subquery below m are filled: its first one is noted, each is Delivered, and what the loops reach behind them is a figure too.
pub record Filled (combine : ℕ → ℕ → ℕ) (q : Query) (places work : List ℕ) (m : ℕ) : Type 0 where
  pub room : cells_needed q ≤ length work
  pub first : (S : ℕ) → S < m → Subquery q.joins (relations_of q) S → get_or places S 0 ≡ place q S 0
  pub each : (S t : ℕ) → S < m → Subquery q.joins (relations_of q) S → t < sites_of q → get_or work (place q S t) 0 ≡ mark (delivered combine q S t)
  pub most : (S t : ℕ) → S < m → Subquery q.joins (relations_of q) S → t < reach (sites_of q) → get_or work (place q S t) 0 ≤ none_mark

-- What filling the cells asks.
pub record Fillable (q : Query) (l : Lent) (table : List ℕ) : Type 0 where
  pub laid : LaidOut q l
  pub table_is : Tabled q.joins table
  pub places_long : length l.places ≡ most_sets
  pub room : cells_needed q ≤ length l.work

-- What it leaves: the cells of every subquery but the whole query, the later cells as they were, and the number of joins in these subqueries.
pub record FilledFrom (combine : ℕ → ℕ → ℕ) (q : Query) (old new places : List ℕ) (r : ℕ) : Type 0 where
  pub cells : Filled combine q places new (all (relations_of q))
  pub long : length new ≡ length old
  pub later : drop (cells_needed q) new ≡ drop (cells_needed q) old
  pub joins : r ≡ joins_below q.joins (relations_of q) (all (relations_of q))
