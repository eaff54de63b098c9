-- `begin` stores each relation by itself.
use Prim.Native.Nat.{◌+◌}
use Rattle.sizing.specs.Code.{lists_of, Begun}
use Rattle.sizing.proofs.working.Given.begin.Given as goal

abbrev pub invariant-loop-r : goal.invariant-loop-r
invariant-loop-r l =
    Begun l.self.joins (l.self.joins.count + 1) l.self.rows.now l.self.divisors.now (lists_of l.initial.sizes l.initial.waiting) (lists_of l.sizes l.waiting) l.r
