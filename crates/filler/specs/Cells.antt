-- Where the cells of a subquery stand in the work area: one after the other. The loops go over them two at a time, and over eight of them from five
-- sites on, so that they may reach further, into the next subquery's.
use Rattle.std.specs.Prelude.{ℕ, ◌+◌, ◌*◌, ◌/◌, ◌<◌, ◌≡◌, List, leb, get_or}
use Rattle.query.specs.Choice.{pick}
use Rattle.board.specs.Laying.{Kept}

-- The place of the cell of S at site t, by the places of the subqueries' first cells.
abbrev pub place_in : List ℕ → ℕ → ℕ → ℕ
place_in places S t = get_or places S 0 + t

-- How far pairs reach over so many lanes.
unfoldable pub paired : ℕ → ℕ
paired m = 2 * ((m + 1) / 2)

-- The lanes that the loops go over: one for each of up to four sites, else all eight; and how many cells they take.
unfoldable pub lanes_of : ℕ → ℕ
lanes_of s = pick (leb s 4) s 8

abbrev pub reach : ℕ → ℕ
reach s = paired (lanes_of s)

-- The m cells from a place on are g 0, g 1, ..; every other cell is as it was.
pub record Stored (old new : List ℕ) (at : ℕ) (g : ℕ → ℕ) (m : ℕ) : Type 0 where
  pub kept : Kept old new at (at + m)
  pub each : (t : ℕ) → t < m → get_or new (at + t) 0 ≡ g t
