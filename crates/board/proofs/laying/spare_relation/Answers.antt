-- With its index a relation's size is noted at its home, without it nothing is.
use borrow.Author.Rules.{rules}
use Rattle.query.specs.Query.{home}
use Rattle.board.proofs.LaidSteps.{index_laid, no_index_laid}
use Rattle.board.proofs.laying.spare_relation.Goals as goal

pub returns-then-q-r-eq1 : goal.returns-then-q-r-eq1
returns-then-q-r-eq1 c = index_laid _ _ _ _ _ _ _ _ c.from-site.ensures c.single.ensures c.from.ensures c.if-q-r-eq1.true c.spare.ensures

pub returns-else-q-r-eq1 : goal.returns-else-q-r-eq1
returns-else-q-r-eq1 c = no_index_laid _ _ _ _ c.if-q-r-eq1.false

pub spare-requires : goal.spare-requires
unfolding home
spare-requires c = search rules
