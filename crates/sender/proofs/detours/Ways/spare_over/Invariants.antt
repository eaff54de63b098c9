-- Each turn weighs the way to one site more.
use Prim.Native.Nat.{◌≤◌}
use Rattle.sender.specs.Detours.{enough, DirectOver}
use Rattle.sender.proofs.detours.Ways.spare_over.Given as goal

abbrev pub invariant-loop-t : goal.invariant-loop-t
invariant-loop-t l = enough ≤ l.spare → DirectOver l.self.board.now l.self.a l.m l.t
