-- The sizes of the subqueries, by the form of the file (rules 2.10, 2.12): the section Sizes has them, or they are worked out from Rows and Divisors.
use Rattle.std.specs.Prelude.{ℕ, ◌-◌, ◌^◌, List, set, replicate}
use Rattle.relations.specs.Code.{most_sets}
use Rattle.relations.specs.declared.Joins.{Joins}
use Rattle.relations.specs.Trees.{is_subquery, subqueries}
use Rattle.query.specs.Choice.{pick}
use Rattle.sizing.specs.Worked.{worked_sizes}
use Rattle.sections.specs.Fields.{Read, value, and_then, field, amount_up_to, from_one_to, items, storing, section}
use Rattle.decoder.specs.declared.Form.{Form}
use Rattle.decoder.specs.declared.Form.TheVariants as form

-- A lone number, stored at its place.
abbrev pub with_number : ℕ → List ℕ → ℕ → List ℕ
with_number i a v = set a i v

-- Sizes, count = number of subqueries, in two bytes: an amount up to 1,000,000,000 each, ascending subquery number.
unfoldable pub sized : Joins → ℕ → ℕ → List ℕ → List ℕ → Read (List ℕ)
sized J n S a l = pick (is_subquery J n S) (storing (amount_up_to 1_000_000_000) with_number S a l) (value a l)

unfoldable pub sizes_section : Joins → ℕ → List ℕ → Read (List ℕ)
sizes_section J n l = and_then (field 2 2 (subqueries J n) (subqueries J n) l) (λ m l. items (sized J n) (2 ^ n) 0 (replicate most_sets 0) l)

-- Rows, count n, and Divisors, count n - 1: a number from 1 to 1,000,000 each. Places without an item hold 1, so that each number of the list is in range.
unfoldable pub counts_section : ℕ → List ℕ → Read (List ℕ)
counts_section m = section m m (λ c. replicate 9 1) (storing (from_one_to 1_000_000) with_number)

-- Rows, then Divisors, and the sizes that are worked out from them.
unfoldable pub rows_sections : Joins → ℕ → List ℕ → Read (List ℕ)
rows_sections J n l =
    and_then (counts_section n l) (λ rows l. and_then (counts_section (n - 1) l) (λ divisors l. value (worked_sizes J n rows divisors) l))

-- The sizes, by the form of the file.
abbrev pub sizes_by : Form → Joins → ℕ → List ℕ → Read (List ℕ)
sizes_by form.Sizes J n l = sizes_section J n l
sizes_by form.Rows J n l = rows_sections J n l
