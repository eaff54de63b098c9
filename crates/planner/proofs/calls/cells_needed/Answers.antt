-- No need is too large for a number of the machine.
use Rattle.planner.proofs.Cells.{need_fits}
use Rattle.planner.proofs.calls.cells_needed.Goals as goal

pub overflow_mul-result : goal.overflow_mul-result
overflow_mul-result c = need_fits c.in-Some.standing
