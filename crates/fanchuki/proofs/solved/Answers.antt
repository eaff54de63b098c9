-- Each answer of solve is a case of the definition.
use borrow.Author.Rules.{rules}
use Rattle.fanchuki.proofs.Serving.{by_solve}
use Rattle.fanchuki.proofs.solved.Goals as goal

pub returns-in-Ok-Found : goal.returns-in-Ok-Found
returns-in-Ok-Found c = let f = by_solve _ _ _ _ _ c.solve.ensures.solved c.requires in search rules

pub returns-in-Ok-NoRoute : goal.returns-in-Ok-NoRoute
returns-in-Ok-NoRoute c = let f = by_solve _ _ _ _ _ c.solve.ensures.solved c.requires in search rules

pub returns-in-Err : goal.returns-in-Err
returns-in-Err c = let f = by_solve _ _ _ _ _ c.solve.ensures.solved c.requires in search rules
