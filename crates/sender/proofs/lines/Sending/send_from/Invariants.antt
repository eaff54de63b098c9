-- Each turn tries one site more.
use Prim.Native.Nat.{ℕ, ◌+◌}
use Rattle.sender.specs.Delivering.{line_in}
use Rattle.sender.specs.Rows.{TriedFrom}
use Rattle.sender.proofs.lines.Sending.send_from.Given as goal

abbrev pub invariant-loop-t : goal.invariant-loop-t
invariant-loop-t l = TriedFrom l.initial.best l.best (λ (i : ℕ). l.figure + line_in l.self.board.now l.self.size.0 l.k i) 0 l.t
