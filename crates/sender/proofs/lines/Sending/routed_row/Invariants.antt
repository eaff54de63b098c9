-- Each turn the nearest site that is left sends.
use Prim.Native.Nat.{ℕ}
use lib.ListN.{get_or}
use Rattle.sender.proofs.Settled.{Settling}
use Rattle.sender.proofs.lines.Sending.routed_row.Given as goal

abbrev pub invariant-loop-left : goal.invariant-loop-left
invariant-loop-left l = Settling l.self.board.now l.self.size.0 (λ (k : ℕ). get_or l.initial.best k 0) l.best l.left

abbrev pub decreases-loop-left : goal.decreases-loop-left
decreases-loop-left l = l.left
