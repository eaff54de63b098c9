-- `writing::write_plan` meets its contract: the steps from place 1 on, then their count at place 0. Assumes nothing.
use borrow.Author.Rules.{rules}
use Rattle.rules.proofs.Combinations.{plus_combines}
use Rattle.solver.proofs.WholePlan.{plan_asked, plan_some, plan_few, plan_is}
use Rattle.solver.proofs.writing.write_plan.Goals as goal

pub write_delivered-requires : goal.write_delivered-requires
write_delivered-requires c = plan_asked _ plus_combines _ _ _ _ c.joins_of.ensures c.whole-every.ensures _ c.args.out.now c.requires

pub overflow_sub-out : goal.overflow_sub-out
overflow_sub-out c = plan_some _ plus_combines _ _ _ _ c.joins_of.ensures c.whole-every.ensures _ _ _ _ c.requires c.write_delivered.ensures.wrote

pub overflow_cast-out : goal.overflow_cast-out
overflow_cast-out c = plan_few _ plus_combines _ _ _ _ c.joins_of.ensures c.whole-every.ensures _ _ _ _ c.requires c.write_delivered.ensures.wrote

pub returns : goal.returns
returns c = λ q laid filled to cost. search (rules, plan_is _ plus_combines _ _ _ _ c.joins_of.ensures c.whole-every.ensures _ _ _ _ c.requires c.write_delivered.ensures.wrote q laid filled to cost)
