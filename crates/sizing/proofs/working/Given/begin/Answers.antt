-- `begin` stores each relation by itself.
use mathlib.Core.Path.{refl}
use native.Mathlib.Omega.{arith}
use Rattle.sizing.proofs.Beginning.{begun_none, begun_next, begun_last, single_in}
use Rattle.sizing.proofs.working.Given.begin.Goals as goal

pub loop-r-init : goal.loop-r-init
loop-r-init c = begun_none _ _ _ _ _ c.requires.long

pub above-requires : goal.above-requires
above-requires c = single_in _ _ _ c.requires _ c.loop-r-test.true _ c.single-set.ensures

pub loop-r-preserved : goal.loop-r-preserved
loop-r-preserved c = begun_next _ _ _ _ c.requires _ c.loop-r-test.true _ _ _ _ _ c.loop-r.invariant c.single-set.ensures refl c.above.ensures

pub returns-2 : goal.returns-2
returns-2 c = begun_last _ _ _ _ c.requires _ c.loop-r-test.true _ _ _ _ _ (omega arith) c.loop-r.invariant c.single-set.ensures refl c.above.ensures
