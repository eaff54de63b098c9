-- Each case of the two tests is a case of the definition.
use borrow.Author.Rules.{rules}
use borrow.Author.Tests.{eq-eqb, ne_eqb}
use Rattle.board.specs.Board.{spared_row}
use Rattle.board.proofs.lanes.spared_row.Goals as goal

pub returns-then-parts-ne1 : goal.returns-then-parts-ne1
unfolding spared_row
returns-then-parts-ne1 c = (rw (ne_eqb _ _ c.if-parts-ne1.true) c.operand_row.ensures.0, search rules)

pub returns-then-parts-ne1-2 : goal.returns-then-parts-ne1-2
unfolding spared_row
returns-then-parts-ne1-2 c = (rw (eq-eqb _ _ c.if-parts-ne1.false, ne_eqb _ _ c.if-parts-ne1-2.true) c.operand_row-then-parts-ne1-2.ensures.0, search rules)

pub returns : goal.returns
unfolding spared_row
returns c = (rw (eq-eqb _ _ c.if-parts-ne1.false, eq-eqb _ _ c.if-parts-ne1-2.false), search rules)
