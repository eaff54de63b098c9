-- `writing::joins_within` meets its contract: each turn adds the bit of one join more. Assumes nothing.
use borrow.Author.Rules.{rules}
use Rattle.solver.proofs.Choices.{within_none, within_fits, within_more, within_done}
use Rattle.solver.proofs.writing.joins_within.Goals as goal

pub loop-e-init : goal.loop-e-init
loop-e-init c = search (rules, within_none)

pub overflow_add-found : goal.overflow_add-found
overflow_add-found c = search (rules, within_fits)

pub loop-e-preserved : goal.loop-e-preserved
loop-e-preserved c = search (rules, within_more)

pub returns : goal.returns
returns c = within_done _ _ _ _ c.loop-e.invariant _ _ c.loop-e.auto.e-end c.loop-e-test.false c.joins_of-e-end.ensures c.requires
