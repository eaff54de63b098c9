-- `placing::reach` meets its contract. Assumes nothing.
use native.Mathlib.Omega.{arith}
use Rattle.filler.proofs.Places.{reach_two, reach_four, reach_many}
use Rattle.filler.proofs.placing.reach.Goals as goal

pub returns-then-sites-le2 : goal.returns-then-sites-le2
returns-then-sites-le2 c = reach_two _ c.requires c.if-sites-le2.true

pub returns-then-sites-le4 : goal.returns-then-sites-le4
returns-then-sites-le4 c = reach_four _ (omega (arith, c.if-sites-le2.false)) c.if-sites-le4.true

pub returns-else-sites-le4 : goal.returns-else-sites-le4
returns-else-sites-le4 c = reach_many _ (omega (arith, c.if-sites-le4.false))
