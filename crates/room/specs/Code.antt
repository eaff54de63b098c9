-- How the code's answer stands for the rules': a number and values for each case (rule 12.3).
use Rattle.std.specs.Prelude.{Result, Ok, Err}
use Rattle.query.specs.declared.refusal.Refusal.{Refusal}
use Rattle.query.specs.Refusals.{number_of}
use Rattle.room.specs.declared.Figures.{Figures}
use Rattle.room.specs.Room.{Answer, figures, refused}

abbrev pub figures_are : Figures → Answer
figures_are f = figures f.subqueries f.cells f.trials

abbrev pub of_room : Result Figures Refusal → Answer
of_room (Ok f) = figures_are f
of_room (Err r) = refused (number_of r)
