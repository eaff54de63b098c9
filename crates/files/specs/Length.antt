-- How many bytes a query's file has, section by section.
use Rattle.std.specs.Prelude.{ℕ, ◌+◌, ◌-◌, ◌*◌}
use Rattle.relations.specs.declared.Joins.{Joins}
use Rattle.relations.specs.Trees.{subqueries}
use Rattle.query.specs.declared.Query.{Query}
use Rattle.query.specs.Query.{relations_of, sites_of}
use Rattle.decoder.specs.declared.Form.{Form}
use Rattle.decoder.specs.declared.Form.TheVariants as form

-- A section: one byte for its count, and w bytes for each item.
abbrev pub section_length : (w count : ℕ) → ℕ
section_length w count = 1 + w * count

-- The sections before the sizes: sites, relations, joins.
abbrev pub before_sizes : Query → ℕ
before_sizes q = section_length 9 (sites_of q) + section_length 2 (relations_of q) + section_length 2 q.joins.count

-- Rows and Divisors of n relations.
abbrev pub rows_length : ℕ → ℕ
rows_length n = section_length 4 n + section_length 4 (n - 1)

-- What the sizes are read from, by the form of the file. The count of Sizes has two bytes.
abbrev pub sizes_length : Form → Joins → ℕ → ℕ
sizes_length form.Sizes J n = 2 + 4 * subqueries J n
sizes_length form.Rows J n = rows_length n

-- The sections in reading order, with lines and delivery behind the sizes.
unfoldable pub file_length : Form → Query → ℕ
file_length f q = before_sizes q + sizes_length f q.joins (relations_of q) + section_length 9 (sites_of q * (sites_of q - 1)) + section_length 1 1

-- The longest file: that of nine relations, with eight sites; where it has the sizes, in a star.
abbrev pub longest_file : Form → ℕ
longest_file form.Sizes = 1_674
longest_file form.Rows = 686
