-- How many subqueries a query has.
use Rattle.std.specs.Prelude.{ℕ}
use Rattle.relations.specs.Trees.{subqueries}
use Rattle.query.specs.declared.Query.{Query}
use Rattle.query.specs.Query.{relations_of}

abbrev pub subqueries_of : Query → ℕ
subqueries_of q = subqueries q.joins (relations_of q)
