-- A figure: a cost as a number, with a mark for none. And the least of such figures, with the lowest place where it stands.
use Rattle.std.specs.Prelude.{ℕ, zero, suc, ◌^◌, ◌≤◌, ◌<◌, ◌≡◌, List, length, get_or, ltb}
use Rattle.relations.specs.Code.{Listed}
use Rattle.query.specs.Choice.{pick}
use Rattle.query.specs.Cost.{Cost, none, some}
use Rattle.board.specs.declared.figures.Choice.{Choice}

-- The figure that stands for none, and the figure of a cost.
abbrev pub none_mark : ℕ
none_mark = 2 ^ 60

abbrev pub mark : Cost → ℕ
mark none = none_mark
mark (some c) = c

-- The new figure where it is less than the kept one, else the kept one.
unfoldable pub lesser : ℕ → ℕ → ℕ
lesser new kept = pick (ltb new kept) new kept

-- The least of the figures g 0 to g (m - 1), and the lowest place where it stands: none at place 0 where no figure is below none.
unfoldable pub least_of : (ℕ → ℕ) → ℕ → ℕ
least_of g zero = none_mark
least_of g (suc m) = lesser (g m) (least_of g m)

unfoldable pub place_of : (ℕ → ℕ) → ℕ → ℕ
place_of g zero = 0
place_of g (suc m) = pick (ltb (g m) (least_of g m)) m (place_of g m)

-- A choice: the least figure and its place.
pub record ChoiceOf (g : ℕ → ℕ) (m : ℕ) (c : Choice) : Type 0 where
  pub figure_is : c.figure ≡ least_of g m
  pub at_is : c.at ≡ place_of g m

unfoldable pub better_of : ℕ → ℕ → Choice → Choice
better_of new i kept = pick (ltb new kept.figure) (record { figure = new; at = i }) kept

-- A row of eight figures, a lane a site.
abbrev pub Lanes : List ℕ → (ℕ → ℕ) → Type 0
Lanes row g = Listed row g 8 8

-- No figure of a row is above that of none.
pub record Marked (row : List ℕ) : Type 0 where
  pub long : length row ≡ 8
  pub most : (k : ℕ) → k < 8 → get_or row k 0 ≤ none_mark
