-- A set of one below 512 has one of nine relations, and its row is that relation's.
use native.Mathlib.Omega.{arith}
use borrow.Author.Rules.{rules}
use borrow.Author.Tests.{eq-eqb, ne_eqb}
use Rattle.query.proofs.Indexed.{one_of_nine}
use Rattle.board.specs.Board.{operand_row}
use Rattle.board.proofs.lanes.operand_row.Goals as goal

pub returns-then-set-eq1 : goal.returns-then-set-eq1
unfolding operand_row
returns-then-set-eq1 c = (rw (eq-eqb _ _ c.if-set-eq1.true), omega (arith, one_of_nine _ c.if-set-eq1.true (search rules)))

pub returns : goal.returns
unfolding operand_row
returns c = (rw (ne_eqb _ _ c.if-set-eq1.false), search rules)
