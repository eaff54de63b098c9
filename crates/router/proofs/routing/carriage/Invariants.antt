-- Each turn weighs one number of sends more.
use Prim.Native.Nat.{ℕ, ◌+◌, ◌*◌, ◌≤◌}
use mathlib.Core.Path.{◌≡◌}
use lib.ListN.{get_or}
use Rattle.board.specs.Figures.{none_mark, least_of}
use Rattle.router.proofs.routing.carriage.Given as goal

abbrev pub invariant-loop-i : goal.invariant-loop-i
invariant-loop-i l = (l.least ≡ least_of (λ (j : ℕ). get_or l.table (8 * j + l.k) 0) l.i) × (l.least ≤ none_mark)
