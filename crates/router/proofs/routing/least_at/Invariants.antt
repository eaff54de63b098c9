-- Each turn weighs one site more.
use Prim.Native.Nat.{ℕ, ◌<◌}
use mathlib.Core.Path.{◌≡◌}
use Rattle.board.specs.Figures.{ChoiceOf}
use Rattle.router.proofs.routing.least_at.Given as goal

abbrev pub invariant-loop-k : goal.invariant-loop-k
invariant-loop-k g l = (h : ℕ → ℕ) → ((k v : ℕ) → k < l.sites → goal.F-post g l.figure k v → v ≡ h k) → ChoiceOf h l.k l.best
