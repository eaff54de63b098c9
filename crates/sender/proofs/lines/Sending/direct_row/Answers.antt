-- Each turn one site more sends what it started with.
use native.Mathlib.Omega.{arith}
use Rattle.sender.proofs.Directed.{directing_more, directed}
use Rattle.sender.proofs.lines.Sending.direct_row.Goals as goal

pub loop-k-preserved : goal.loop-k-preserved
loop-k-preserved c =
    directing_more _ _ _ _ _ _ c.args.self.carriable.few (omega (arith, c.loop-k-test.true, c.sites_of-sites.ensures)) c.loop-k.invariant c.send_from.ensures.0 c.send_from.ensures.1

pub returns : goal.returns
returns c = directed _ _ _ _ _ c.args.self.carriable.few c.loop-k.invariant (omega (arith, c.loop-k-test.false, c.sites_of-sites.ensures)) c.requires.1
