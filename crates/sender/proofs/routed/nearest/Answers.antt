-- Each turn weighs one site more.
use mathlib.Core.Path.{refl}
use Rattle.sender.proofs.Settled.{weighed_none, weighed_all}
use Rattle.sender.proofs.routed.nearest.Goals as goal

pub loop-k-init : goal.loop-k-init
loop-k-init c = weighed_none _ _ _ c.requires.0 c.requires.1 refl

pub returns : goal.returns
returns c = weighed_all _ _ _ _ c.loop-k.invariant c.requires.1 c.loop-k-test.false
