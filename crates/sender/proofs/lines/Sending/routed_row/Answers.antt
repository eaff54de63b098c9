-- Each turn the nearest site that is left sends.
use mathlib.Core.Path.{ap, ◌∙◌}
use Rattle.relations.specs.Sets.{all}
use Rattle.sender.proofs.Settled.{settling_none, settling_more, settled, less_left}
use Rattle.sender.proofs.lines.Sending.routed_row.Goals as goal

pub loop-left-init : goal.loop-left-init
loop-left-init c = settling_none _ _ _ _ c.requires c.args.self.carriable.few (c.whole-left.ensures ∙ ap all c.sites_of.ensures)

pub overflow_sub-left : goal.overflow_sub-left
overflow_sub-left c = rw c.single-left.ensures (less_left c.loop-left.left _ c.nearest-k.ensures.among).0

pub loop-left-preserved : goal.loop-left-preserved
loop-left-preserved c =
    rw c.single-left.ensures
    (settling_more _ _ _ _ _ _ _ c.args.self.carriable.few c.loop-left.invariant c.nearest-k.ensures c.send_from.ensures.0 c.send_from.ensures.1)

pub returns : goal.returns
returns c = settled _ _ _ _ _ c.loop-left.invariant c.loop-left-test.false
