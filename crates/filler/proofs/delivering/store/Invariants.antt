-- `delivering::store` meets its contract: each turn stores two cells more. Assumes nothing.
use Prim.Native.Nat.{ℕ, ◌*◌, ◌≤◌}
use mathlib.Core.Path.{◌≡◌}
use lib.ListN.{get_or}
use Rattle.filler.specs.Cells.{reach, Stored}
use Rattle.filler.proofs.delivering.store.Given as goal

abbrev pub invariant-loop-t : goal.invariant-loop-t
invariant-loop-t l = (((h : ℕ) × (l.t ≡ 2 * h)) × (l.t ≤ reach l.sites)) × Stored l.initial.work l.work l.at (λ (i : ℕ). get_or l.row i 0) l.t
