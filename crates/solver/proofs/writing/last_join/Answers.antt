-- `writing::last_join` meets its contract: each turn weighs one join more, and those that are not in the set change nothing. Assumes nothing.
use borrow.Author.Rules.{rules}
use mathlib.Core.Path.{◌∙◌}
use Rattle.rules.proofs.Combinations.{plus_combines}
use Rattle.board.proofs.LeastFigures.{choice_none}
use Rattle.solver.proofs.Choices.{parts_low, triable, join_better, join_worse}
use Rattle.solver.proofs.writing.last_join.Goals as goal
use Rattle.solver.proofs.writing.last_join.Goals.{then-bit-eq1, else-bit-eq1}

pub loop-e-init : goal.loop-e-init
loop-e-init c = search (rules, choice_none)

pub spared_row-requires : goal.spared_row-requires
spared_row-requires c = (parts_low _ plus_combines _ _ _ c.requires.1.known _ _ c.split-parts.ensures, search rules)

pub trial-requires : goal.trial-requires
trial-requires c = search (rules, triable, plus_combines)

pub loop-e-preserved : goal.loop-e-preserved
loop-e-preserved c =
    elim c.if-bit-eq1.branch [
      | then-bit-eq1 w ↦ join_better _ _ _ _ _ _ c.bit.result _ c.loop-e.invariant (search rules) _ _ _ _ _ (search rules) w.side_at.ensures w.split-parts.ensures w.spared_row.ensures.0 w.trial.ensures.0 (w.best-is ∙ w.better-best.ensures)
      | else-bit-eq1 w ↦ rw w.best-is (search (rules, join_worse))
    ]
