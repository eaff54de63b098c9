-- Each turn one site more sends what it started with.
use Prim.Native.Nat.{ℕ}
use lib.ListN.{get_or}
use Rattle.sender.proofs.Directed.{Directing}
use Rattle.sender.proofs.lines.Sending.direct_row.Given as goal

abbrev pub invariant-loop-k : goal.invariant-loop-k
invariant-loop-k l = Directing l.self.board.now l.self.size.0 (λ (i : ℕ). get_or l.row i 0) l.best l.k
