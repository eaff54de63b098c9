-- How the code's answers stand for readings.
use Rattle.std.specs.Prelude.{ℕ, List, Result, Ok, Err}
use Rattle.query.specs.declared.refusal.Refusal.{Refusal}
use Rattle.query.specs.Refusals.{number_of}
use Rattle.sections.specs.Fields.{Read, refused, value}

-- What was read, with what is left of the file; or the number of the refusal.
abbrev pub read_of : {A : Type 0} → Result A Refusal → List ℕ → Read A
read_of (Ok a) l = value a l
read_of (Err r) l = refused (number_of r)

-- The same of refusals of any kind, by a numbering of them.
abbrev pub read_by : {A E : Type 0} → (E → ℕ) → Result A E → List ℕ → Read A
read_by number (Ok a) l = value a l
read_by number (Err e) l = refused (number e)

-- The same where what was read is in a thing that was lent.
abbrev pub read_into : {A : Type 0} → Result Unit Refusal → A → List ℕ → Read A
read_into (Ok u) a l = value a l
read_into (Err r) a l = refused (number_of r)
