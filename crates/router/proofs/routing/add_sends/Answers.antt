-- Each turn adds the figure of one site more.
use borrow.Author.Rules.{rules}
use Rattle.router.proofs.RouteTables.{added_more}
use Rattle.router.proofs.routing.add_sends.Goals as goal

pub loop-k-preserved : goal.loop-k-preserved
loop-k-preserved c = added_more _ _ _ _ _ _ _ c.loop-k.invariant (search rules) c.requires.0 c.args.sending.carriable.few c.next_site-best.ensures.figure_is
