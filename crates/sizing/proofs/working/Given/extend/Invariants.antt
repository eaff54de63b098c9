-- `extend` passes the relations that wait for the set, from the lowest on.
use Prim.Native.Nat.{◌+◌}
use Rattle.sizing.specs.Code.{lists_of}
use Rattle.sizing.proofs.Walking.{Extending}
use Rattle.sizing.proofs.working.Given.extend.Given as goal

abbrev pub invariant-loop-left : goal.invariant-loop-left
invariant-loop-left l =
    Extending l.self.joins (l.self.joins.count + 1) l.self.rows.now l.self.divisors.now l.set (lists_of l.initial.sizes l.initial.waiting) (lists_of l.sizes l.waiting) l.left

abbrev pub decreases-loop-left : goal.decreases-loop-left
decreases-loop-left l = l.left
