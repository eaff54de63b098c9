-- `rows::stands` meets its contract: each arm is a case of the definition. Assumes nothing.
use borrow.Author.Rules.{rules}
use Rattle.filler.proofs.Trying.{stands_is, stands_not}
use Rattle.filler.proofs.rows.stands.Goals as goal

pub returns-then-bit-eq1 : goal.returns-then-bit-eq1
returns-then-bit-eq1 c = search (rules, stands_is)

pub returns-else-bit-eq1 : goal.returns-else-bit-eq1
returns-else-bit-eq1 c = search (rules, stands_not)
