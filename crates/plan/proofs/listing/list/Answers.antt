-- The file is loaded on an empty planner, and solved with as many cells as are needed and a blank output. What is listed is what is to be said of that, with
-- as many line ends.
use Rattle.std.proofs.Common.{Err, arith, refl, sym, subst, ◌∙◌}
use Rattle.planner.specs.Solve.{Solving, blank}
use Rattle.planner.specs.Code.{state_of}
use Rattle.planner.proofs.Cells.{needed_enough, solve_enough}
use Rattle.plan.specs.Lines.{lines, lines_solved}
use Rattle.plan.specs.Text.{said}
use Rattle.plan.proofs.LineEnds.{HasSteps, ends_text, solve_room, blank_room}
use Rattle.plan.proofs.listing.list.Goals as goal

pub returns-in-Ok : goal.returns-in-Ok
unfolding lines lines_solved said
returns-in-Ok c =
    let p = c.load-loaded.result.planner in
    let solved = c.solve-answer.ensures.solved ∙ solve_enough _ blank (state_of p) (needed_enough p _ (omega arith)) in
    let room = subst (λ (x : Solving). HasSteps x.output) (sym solved) (solve_room _ blank _ blank_room) in
    record {
      says = rw (← c.empty.ensures, ← c.load-loaded.ensures, c.in-Ok.is, ← solved) refl;
      counts = ends_text c.solve-answer.result c.solve-answer.new.output room ∙ rw (← c.empty.ensures, ← c.load-loaded.ensures, c.in-Ok.is, ← solved) refl;
    }

pub returns-in-Err : goal.returns-in-Err
unfolding lines said
returns-in-Err c =
    record {
      says = rw (← c.empty.ensures, ← c.load-loaded.ensures, c.in-Err.is) refl;
      counts = rw (← c.empty.ensures, ← c.load-loaded.ensures, c.in-Err.is) (ends_text (Err c.in-Err.refusal) blank blank_room);
    }
