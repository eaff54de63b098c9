-- The growth calls itself with one relation more taken, so the measure, the relations that are allowed and not yet taken, falls.
use Prim.Native.Nat.{◌-◌}
use Rattle.std.specs.Int.Count.{ones}
use Rattle.relations.proofs.growing.+grow.Given as goal

abbrev pub decreases-grow : goal.decreases-grow
decreases-grow l = ones l.set - ones l.taken
