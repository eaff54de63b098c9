-- Each turn tries one site more.
use Rattle.sender.proofs.Rows.{tried_done}
use Rattle.sender.proofs.lines.Sending.send_from.Goals as goal

pub returns : goal.returns
returns c = tried_done _ _ _ _ 8 c.loop-t.invariant c.loop-t-test.false
