-- The numbers of the refusals (rules 8.1 and 8.2), and what one says (rule 10.2).
use Rattle.std.specs.Prelude.{ℕ, List, ◌++◌, codes}
use Rattle.std.specs.Fmt.{decimal}
use Rattle.query.specs.declared.refusal.Refusal.{Refusal}
use Rattle.query.specs.declared.refusal.Refusal.TheVariants.{Cut, WrongCount, OutOfRange, NotReached, BytesFollow, LinkSites, PlanLength, UnknownStep, LoadedBefore, SendNotAllowed, JoinNotAllowed, WrongEnd, NothingLoaded, FewCells, ShortOutput}

abbrev pub number_of : Refusal → ℕ
number_of Cut = 1
number_of WrongCount = 2
number_of OutOfRange = 3
number_of NotReached = 4
number_of BytesFollow = 5
number_of LinkSites = 6
number_of PlanLength = 7
number_of UnknownStep = 8
number_of LoadedBefore = 9
number_of SendNotAllowed = 10
number_of JoinNotAllowed = 11
number_of WrongEnd = 12
number_of NothingLoaded = 20
number_of FewCells = 21
number_of ShortOutput = 23

-- `refused 4`
abbrev pub refused_text : Refusal → List ℕ
refused_text r = codes "refused " ++ decimal (number_of r)
