-- What a solve asks of the work area that it is lent, and where a cell stands in it.
use Rattle.std.specs.Prelude.{ℕ, ◌+◌, ◌*◌, ◌≤◌, ◌<◌, ◌≡◌}
use Rattle.relations.specs.Trees.{Subquery, count_below, subqueries}
use Rattle.query.specs.declared.Query.{Query}
use Rattle.query.specs.Query.{Valid, relations_of, sites_of}

-- How many cells: one for each subquery and site (rule 7.5).
unfoldable pub cells_needed : Query → ℕ
cells_needed q = subqueries q.joins (relations_of q) * sites_of q

-- The most that any query needs: nine relations in a star have 264 subqueries, and there are eight sites.
abbrev pub most_cells : ℕ
most_cells = 2_112

abbrev pub MostCells : Type 0
MostCells = (q : Query) → Valid q → cells_needed q ≤ most_cells

-- The place of the cell of subquery S at site t: subqueries in ascending number, s cells each.
unfoldable pub place : Query → ℕ → ℕ → ℕ
place q S t = sites_of q * count_below q.joins (relations_of q) S + t

-- No two cells share a place, and each place is below the need.
pub record Places (q : Query) : Type 0 where
  pub apart : (S T t u : ℕ) → Subquery q.joins (relations_of q) S → Subquery q.joins (relations_of q) T → t < sites_of q → u < sites_of q →
      place q S t ≡ place q T u → (S ≡ T) × (t ≡ u)
  pub within : (S t : ℕ) → Subquery q.joins (relations_of q) S → t < sites_of q → place q S t < cells_needed q

abbrev pub PlacesLaw : Type 0
PlacesLaw = (q : Query) → Places q
