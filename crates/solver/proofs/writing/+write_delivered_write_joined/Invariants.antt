-- The number of relations in the subquery falls with each call of the one by the other that goes to a part.
use Prim.Native.Nat.{◌+◌, ◌*◌}
use Rattle.std.specs.Int.Count.{ones}
use Rattle.solver.proofs.writing.+write_delivered_write_joined.Given as goal

abbrev pub decreases-write_delivered : goal.decreases-write_delivered
decreases-write_delivered l = 2 * ones l.due.set + 1

abbrev pub decreases-write_joined : goal.decreases-write_joined
decreases-write_joined l = 2 * ones l.set
