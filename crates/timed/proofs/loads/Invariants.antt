use mathlib.Core.Path.{◌≡◌}
use Rattle.planner.specs.Load.{load_by}
use Rattle.planner.specs.Code.{state_of}
use Rattle.timed.specs.Loads.{standing}
use Rattle.timed.proofs.loads.Given as goal

abbrev pub invariant-loop : goal.invariant-loop
invariant-loop l = state_of l.p ≡ standing (load_by l.form) l.file l.counter
