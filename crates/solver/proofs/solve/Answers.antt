-- `solve` meets its contract: the figure of the whole query says whether there is a way, and the plan is written where there is. Assumes nothing.
use Prim.Native.Nat.{ℕ, ◌+◌}
use native.Mathlib.Omega.{arith}
use mathlib.Core.Path.{refl}
use lib.ListN.{length-replicate}
use Rattle.rules.proofs.Combinations.{plus_combines}
use Rattle.solver.proofs.Answers.{cheapest_number, cheapest_none, filled_here, tried_few, trials_few, answer_found, answer_none}
use Rattle.solver.proofs.solve.Goals as goal

pub overflow_add-trials : goal.overflow_add-trials
overflow_add-trials c =
    let f = filled_here c.args.q.now _ _ _ _ _ _ _ c.requires.0 c.laid_out-board.ensures c.join_table-table.ensures (length-replicate {A = ℕ} 512 0) c.requires.1.0 c.fill-tried.ensures in
    omega (arith, tried_few _ _ _ _ _ f.0 c.requires.0)

pub overflow_mul-trials : goal.overflow_mul-trials
overflow_mul-trials c =
    let f = filled_here c.args.q.now _ _ _ _ _ _ _ c.requires.0 c.laid_out-board.ensures c.join_table-table.ensures (length-replicate {A = ℕ} 512 0) c.requires.1.0 c.fill-tried.ensures in
    omega (arith, tried_few _ _ _ _ _ f.0 c.requires.0, trials_few _ _ _ _ _ f.0 c.requires.0)

pub returns-then-figure-lt-NONE : goal.returns-then-figure-lt-NONE
returns-then-figure-lt-NONE c =
    let f = filled_here c.args.q.now _ _ _ _ _ _ _ c.requires.0 c.laid_out-board.ensures c.join_table-table.ensures (length-replicate {A = ℕ} 512 0) c.requires.1.0 c.fill-tried.ensures in
    let number = cheapest_number ◌+◌ plus_combines _ c.requires.0 _ (c.cheapest-figure.ensures _ f.1 f.0.cells refl) c.if-figure-lt-NONE.true in
    let answer = answer_found _ _ _ _ _ f.0 c.requires.0 _ refl _ _ c.args.plan.now _ number (c.write_plan-length.ensures _ f.1 f.0.cells refl number) in
    record { answer = answer.0; written = answer.1.0; cells = answer.1.1 }

pub returns : goal.returns
returns c =
    let f = filled_here c.args.q.now _ _ _ _ _ _ _ c.requires.0 c.laid_out-board.ensures c.join_table-table.ensures (length-replicate {A = ℕ} 512 0) c.requires.1.0 c.fill-tried.ensures in
    let none = cheapest_none ◌+◌ plus_combines _ c.requires.0 _ (c.cheapest-figure.ensures _ f.1 f.0.cells refl) c.if-figure-lt-NONE.false in
    let answer = answer_none _ _ _ _ _ f.0 c.requires.0 _ refl c.args.plan.now none in
    record { answer = answer.0; written = answer.1.0; cells = answer.1.1 }
