-- Each case of the test is a case of the definition.
use borrow.Author.Tests.{eq-eqb, ne_eqb}
use Rattle.query.specs.Query.{is_open, line_fixed}
use Rattle.board.specs.Board.{line_fixed_of}
use Rattle.board.proofs.laying.line_fixed.Goals as goal

pub returns-then-k-t : goal.returns-then-k-t
unfolding line_fixed_of
returns-then-k-t c = rw (eq-eqb _ _ c.if-k-t.true)

pub returns : goal.returns
unfolding line_fixed_of is_open line_fixed
returns c = rw (ne_eqb _ _ c.if-k-t.false) c.if_flagged.ensures
