-- `sends::Writer::put_detour` meets its contract: each turn adds the figures of one send more, until as many are tried as the route has. Assumes nothing.
use Prim.Native.Nat.{◌-◌}
use Rattle.board.specs.Board.{sites_at}
use Rattle.router.proofs.FewestSends.{Searching}
use Rattle.router.proofs.sends.Writer.put_detour.Given as goal

abbrev pub invariant-loop-table : goal.invariant-loop-table
invariant-loop-table l = Searching l.sending.board.now l.sending.size.0 l.t l.k l.i l.table

abbrev pub decreases-loop-table : goal.decreases-loop-table
decreases-loop-table l = sites_at l.sending.board.now - l.i
