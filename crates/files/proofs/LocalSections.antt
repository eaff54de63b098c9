-- The sections up to the lines, by either form, are local, as their fields are.
use Prim.Native.Nat.{ℕ, ◌-◌}
use Rattle.relations.specs.declared.Joins.{Joins}
use Rattle.query.specs.Zeros.{no_sites, no_relations, no_joins}
use Rattle.sections.specs.Fields.{from_one_to}
use Rattle.sections.specs.Sections.{terms, two, with_site, sites_section, with_relation, relations_section, with_join, joins_section}
use Rattle.decoder.specs.Sizes.{with_number, counts_section, rows_sections}
use Rattle.files.proofs.Local.{Local, field_local, value_local, then_local, section_local}

terms_local : Local terms
unfolding terms
terms_local =
    then_local _ _ (field_local 1 3 0 1) λ flag.
    then_local _ _ (field_local 4 3 0 1_000_000) λ fixed. then_local _ _ (field_local 4 3 0 1_000) λ rate. value_local (record { flag = flag; fixed = fixed; rate = rate })

two_local : (a b : ℕ) → Local (two a b)
unfolding two
two_local a b =
    then_local _ _ (field_local 1 3 0 (a - 1)) λ x. then_local _ _ (field_local 1 3 0 (b - 1)) λ y. value_local (record { one = x; other = y })

pub sites_local : Local sites_section
unfolding sites_section
sites_local = section_local 1 8 no_sites terms with_site terms_local

pub relations_local : (s : ℕ) → Local (relations_section s)
unfolding relations_section
relations_local s = section_local 1 9 no_relations (two s 2) with_relation (two_local s 2)

pub joins_local : (n : ℕ) → Local (joins_section n)
unfolding joins_section
joins_local n = section_local (n - 1) (n - 1) no_joins (two n n) with_join (two_local n n)

counts_local : (m : ℕ) → Local (counts_section m)
unfolding counts_section
counts_local m = section_local m m _ (from_one_to 1_000_000) with_number (field_local 4 3 1 1_000_000)

pub rows_local : (J : Joins) (n : ℕ) → Local (rows_sections J n)
unfolding rows_sections
rows_local J n = then_local (counts_section n) _ (counts_local n) λ rows. then_local (counts_section (n - 1)) _ (counts_local (n - 1)) λ divisors. value_local _
