-- Lines of which no detour ever pays: a way of two lines has no lower fixed amount and no lower rate than the line itself.
use Rattle.std.specs.Prelude.{ℕ, ◌+◌, ◌*◌, ◌≤◌, ◌<◌, ◌≡◌, List, length, get_or}
use Rattle.board.specs.Figures.{none_mark}
use Rattle.board.specs.Board.{line_fixed_at, line_rate_at, sites_at}

-- The way from a over m to t, where it is open and leads to another site.
abbrev pub DirectAt : List ℕ → (a m t : ℕ) → Type 0
DirectAt b a m t =
    (a ≡ t → ⊥) → line_fixed_at b a m < none_mark → line_fixed_at b m t < none_mark →
    (line_fixed_at b a t ≤ line_fixed_at b a m + line_fixed_at b m t) × (line_rate_at b a t ≤ line_rate_at b a m + line_rate_at b m t)

-- The ways over m to the first n sites, those over the first n sites, and those from the first n sites.
abbrev pub DirectOver : List ℕ → (a m n : ℕ) → Type 0
DirectOver b a m n = (t : ℕ) → t < n → DirectAt b a m t

abbrev pub DirectFrom : List ℕ → (a n : ℕ) → Type 0
DirectFrom b a n = (m : ℕ) → m < n → DirectOver b a m (sites_at b)

abbrev pub Direct : List ℕ → ℕ → Type 0
Direct b n = (a : ℕ) → a < n → DirectFrom b a (sites_at b)

-- A number that a difference keeps where nothing was missing: more than all that is added to it or taken from it.
abbrev pub enough : ℕ
enough = 4 * none_mark

-- The fixed amounts of the lines of a to other sites.
pub record OtherLines (b : List ℕ) (a : ℕ) (lines : List ℕ) : Type 0 where
  pub long : length lines ≡ 8
  pub each : (t : ℕ) → t < 8 → (a ≡ t → ⊥) → get_or lines t 0 ≡ line_fixed_at b a t
  pub most : (t : ℕ) → t < 8 → get_or lines t 0 ≤ none_mark
