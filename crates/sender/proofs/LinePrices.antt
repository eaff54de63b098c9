-- What a line comes to, and that it asks no more than its board has.
use Prim.Native.Nat.{ℕ, ◌≤◌, ◌<◌}
use mathlib.Core.Path.{◌≡◌}
use mathlib.Core.List.{List}
use Rattle.query.specs.Prices.{line_charge}
use Rattle.board.specs.Figures.{none_mark}
use Rattle.board.specs.Board.{line_fixed_at, line_rate_at, sites_at}
use Rattle.sender.specs.Delivering.{line_in, Carriable}

pub line_asks : (b : List ℕ) (size k t : ℕ) → Carriable b size → k < sites_at b → t < 8 →
    (line_fixed_at b k t ≤ none_mark) × ((line_rate_at b k t ≤ 1_000) × (size ≤ 1_000_000_000))
line_asks b size k t p h g = (p.fixed_most k t h g, (p.rate_most k t h g, p.size_most))

pub line_is : (b : List ℕ) (size k t r : ℕ) → r ≡ line_charge (line_fixed_at b k t) (line_rate_at b k t) size → r ≡ line_in b size k t
unfolding line_in
line_is b size k t r e = e
