-- `work_out` goes on from every subquery, in ascending number.
use Prim.Native.Nat.{◌+◌}
use Rattle.sizing.specs.Code.{lists_of}
use Rattle.sizing.proofs.Reaching.{Reached}
use Rattle.sizing.proofs.working.work_out.Given as goal

abbrev pub invariant-loop-set : goal.invariant-loop-set
invariant-loop-set l = Reached l.fn.joins (l.fn.joins.count + 1) l.rows l.divisors (lists_of l.sizes l.waiting) l.set
