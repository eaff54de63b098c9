-- The ordinary file of what a file with row counts holds: the same bytes, with Sizes in the place of Rows and Divisors.
use Rattle.std.specs.Prelude.{ℕ, zero, suc, ◌+◌, ◌/◌, ◌%◌, ◌^◌, List, [], ◌∷◌, ◌++◌, take, drop}
use Rattle.relations.specs.Trees.{is_subquery, subqueries}
use Rattle.query.specs.declared.Query.{Query}
use Rattle.query.specs.Choice.{pick}
use Rattle.query.specs.Query.{relations_of, size}
use Rattle.files.specs.Length.{before_sizes, rows_length}

-- A number in w bytes, little-endian.
unfoldable pub bytes_of : (w v : ℕ) → List ℕ
bytes_of zero v = []
bytes_of (suc w) v = v % 256 ∷ bytes_of w (v / 256)

-- Of k sets from S on, the size of each subquery, in four bytes.
unfoldable pub amounts : Query → (k S : ℕ) → List ℕ
amounts q zero S = []
amounts q (suc k) S = pick (is_subquery q.joins (relations_of q) S) (bytes_of 4 (size q S)) [] ++ amounts q k (suc S)

-- The section Sizes: the number of subqueries in two bytes, then the sizes in ascending number.
unfoldable pub sizes_bytes : Query → List ℕ
sizes_bytes q = bytes_of 2 (subqueries q.joins (relations_of q)) ++ amounts q (2 ^ relations_of q) 0

-- Where Rows and Divisors end and the lines begin.
abbrev pub lines_from : Query → ℕ
lines_from q = before_sizes q + rows_length (relations_of q)

unfoldable pub ordinary : Query → List ℕ → List ℕ
ordinary q file = take (before_sizes q) file ++ (sizes_bytes q ++ drop (lines_from q) file)
