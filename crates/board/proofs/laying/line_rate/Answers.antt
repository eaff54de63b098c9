-- Each case of the test is a case of the definition.
use borrow.Author.Tests.{eq-eqb, ne_eqb}
use Rattle.query.specs.Query.{line_rate}
use Rattle.board.specs.Board.{line_rate_of}
use Rattle.board.proofs.laying.line_rate.Goals as goal

pub returns-then-k-t : goal.returns-then-k-t
unfolding line_rate_of
returns-then-k-t c = rw (eq-eqb _ _ c.if-k-t.true)

pub returns : goal.returns
unfolding line_rate_of line_rate
returns c = rw (ne_eqb _ _ c.if-k-t.false) c.from.ensures
