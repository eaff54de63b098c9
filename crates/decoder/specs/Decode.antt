-- The query file, section by section in reading order: rule 2.10 and refusals 1 to 5, byte by byte in docs/FORMAT.md. Each section is read from where the
-- last one ended; told from the file's end, as each definition goes on with the one above it.
use Rattle.std.specs.Prelude.{ℕ, List, [], length, eqb}
use Rattle.relations.specs.declared.Joins.{Joins}
use Rattle.relations.specs.Trees.{reaches}
use Rattle.query.specs.declared.Sites.{Sites}
use Rattle.query.specs.declared.Relations.{Relations}
use Rattle.query.specs.declared.Lines.{Lines}
use Rattle.query.specs.declared.Query.{Query}
use Rattle.query.specs.Choice.{pick}
use Rattle.sections.specs.Fields.{Read, refused, value, and_then}
use Rattle.sections.specs.Sections.{sites_section, relations_section, joins_section, lines_section, delivery_section}
use Rattle.decoder.specs.declared.Form.{Form}
use Rattle.decoder.specs.Sizes.{sizes_by}

-- After Delivery, refusal 5 where bytes follow.
abbrev pub after_delivery : Query → List ℕ → Read Query
after_delivery query l = pick (eqb (length l) 0) (value query []) (refused 5)

-- After the lines, Delivery, with which the query has all its parts.
abbrev pub after_lines : Sites → Relations → Joins → List ℕ → Lines → List ℕ → Read Query
after_lines sites relations joins sizes lines l =
    and_then (delivery_section sites.count l)
    (λ target l. after_delivery (record { sites = sites; relations = relations; joins = joins; sizes = sizes; lines = lines; target = target }) l)

-- After the sizes, the lines.
abbrev pub after_sizes : Sites → Relations → Joins → List ℕ → List ℕ → Read Query
after_sizes sites relations joins sizes l = and_then (lines_section sites.count l) (after_lines sites relations joins sizes)

-- After the last join, refusal 4 where the joins do not reach all relations from relation 0, else the sizes.
abbrev pub after_joins : Form → Sites → Relations → Joins → List ℕ → Read Query
after_joins f sites relations joins l =
    pick (reaches joins relations.count) (and_then (sizes_by f joins relations.count l) (after_sizes sites relations joins)) (refused 4)

-- After the relations, the joins.
abbrev pub after_relations : Form → Sites → Relations → List ℕ → Read Query
after_relations f sites relations l = and_then (joins_section relations.count l) (after_joins f sites relations)

-- After the sites, the relations.
abbrev pub after_sites : Form → Sites → List ℕ → Read Query
after_sites f sites l = and_then (relations_section sites.count l) (after_relations f sites)

-- The whole file begins with the sites.
unfoldable pub decode : Form → List ℕ → Read Query
decode f file = and_then (sites_section file) (after_sites f)
