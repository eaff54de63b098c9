-- Room: what a query needs, told before it is run from the numbers of its relations and sites and its joins alone (rule 7.9). Refusals 2, 3, 4.
use Rattle.std.specs.Prelude.{ℕ, ◌-◌, ◌*◌, Bool, ◌&&◌, List, ◌∷◌, length, eqb, leb}
use Rattle.relations.specs.declared.Joins.{Joins}
use Rattle.relations.specs.Trees.{subqueries, reaches}
use Rattle.query.specs.Choice.{pick}
use Rattle.sections.specs.Fields.{Read, value}
use Rattle.sections.specs.Fields as fields
use Rattle.sections.specs.Sections.{joins_section}
use Rattle.tables.specs.Tables.{trials_of}

-- What room answers: the number of subqueries, the cells and the trials.
pub data Answer : Type 0 where
  figures : (subqueries cells trials : ℕ) → Answer
  refused : (number : ℕ) → Answer

-- The figures of n relations with these joins at s sites. There is a cell for each subquery and site.
abbrev pub figures_of : (n s : ℕ) → Joins → Answer
figures_of n s J = figures (subqueries J n) (subqueries J n * s) (trials_of s J n)

-- n is 1 to 9 and s is 1 to 8, as in a file.
unfoldable pub in_limits : (n s : ℕ) → Bool
in_limits n s = (leb 1 n && leb n 9) && (leb 1 s && leb s 8)

-- After the last join, refusal 4 where the joins do not reach all relations from relation 0.
abbrev pub after_pairs : (n s : ℕ) → Read Joins → Answer
after_pairs n s (fields.refused k) = refused k
after_pairs n s (value J l) = pick (reaches J n) (figures_of n s J) (refused 4)

-- Refusal 2 where n or s is outside its limit, and where the bytes are not n - 1 pairs. Then these are read as they stand in a file, behind their count.
unfoldable pub room : (n s : ℕ) → (pairs : List ℕ) → Answer
room n s pairs = pick (in_limits n s && eqb (length pairs) (2 * (n - 1))) (after_pairs n s (joins_section n ((n - 1) ∷ pairs))) (refused 2)
