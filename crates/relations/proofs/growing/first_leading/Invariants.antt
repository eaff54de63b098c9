-- None of the joins below e leads out.
use Prim.Native.Nat.{ℕ, ◌<◌}
use mathlib.Core.Path.{◌≡◌}
use mathlib.Core.Bool.{false}
use Rattle.relations.specs.Code.{leads_by}
use Rattle.relations.proofs.growing.first_leading.Given as goal

abbrev pub invariant-loop-e : goal.invariant-loop-e
invariant-loop-e l = (i : ℕ) → i < l.e → leads_by l.ends l.set l.skip l.taken i ≡ false
