-- The parts of a query, each with its count and zeros, and the query of zeros.
use Rattle.std.specs.Prelude.{ℕ, replicate}
use Rattle.relations.specs.Code.{most_sets}
use Rattle.relations.specs.declared.Joins.{Joins}
use Rattle.query.specs.declared.Sites.{Sites}
use Rattle.query.specs.declared.Relations.{Relations}
use Rattle.query.specs.declared.Lines.{Lines}
use Rattle.query.specs.declared.Query.{Query}

abbrev pub no_sites : ℕ → Sites
no_sites s = record { count = s; may = replicate 8 0; fixed = replicate 8 0; rate = replicate 8 0 }

abbrev pub no_relations : ℕ → Relations
no_relations n = record { count = n; home = replicate 9 0; index = replicate 9 0 }

abbrev pub no_joins : ℕ → Joins
no_joins m = record { count = m; first = replicate 8 0; second = replicate 8 0 }

abbrev pub no_lines : Lines
no_lines = record { flag = replicate 64 0; fixed = replicate 64 0; rate = replicate 64 0 }

-- A query of zeros.
unfoldable pub no_query : Query
no_query = record { sites = no_sites 0; relations = no_relations 0; joins = no_joins 0; sizes = replicate most_sets 0; lines = no_lines; target = 0 }
