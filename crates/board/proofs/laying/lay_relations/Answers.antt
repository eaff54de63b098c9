-- Each turn lays one relation more.
use native.Mathlib.Omega.{arith}
use borrow.Author.Rules.{rules}
use Rattle.query.specs.Query.{home}
use Rattle.board.proofs.Here.{home_low}
use Rattle.board.proofs.LaidSteps.{relations_more}
use Rattle.board.proofs.laying.lay_relations.Goals as goal

pub single-homes-requires : goal.single-homes-requires
unfolding home
single-homes-requires c = omega (arith, home_low _ c.requires c.loop-r.r c.loop-r-test.true)

pub loop-r-preserved : goal.loop-r-preserved
unfolding home
loop-r-preserved c =
    relations_more _ _ _ _ _ _ c.loop-r.invariant (search rules) (search rules) (rw c.from.ensures at c.single-homes.ensures) c.spare_relation.ensures
