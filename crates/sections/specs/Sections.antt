-- The sections that a file of either form has, each by itself, and the two kinds of items in them: rule 2.10 and refusals 1 to 3, byte by byte in docs/FORMAT.md.
use Rattle.std.specs.Prelude.{ℕ, ◌-◌, ◌*◌, List, set, eqb}
use Rattle.relations.specs.declared.Joins.{Joins}
use Rattle.query.specs.declared.Sites.{Sites}
use Rattle.query.specs.declared.Relations.{Relations}
use Rattle.query.specs.declared.Lines.{Lines}
use Rattle.query.specs.Choice.{pick}
use Rattle.query.specs.Zeros.{no_sites, no_relations, no_joins, no_lines}
use Rattle.query.specs.declared.Terms.{Terms}
use Rattle.query.specs.Terms.{with_line}
use Rattle.sections.specs.declared.items.Two.{Two}
use Rattle.sections.specs.Fields.{Read, value, and_then, count_field, byte_below, amount_up_to, items, storing, section}

-- Fixed amounts are up to 1,000,000, rates up to 1,000.
unfoldable pub terms : List ℕ → Read Terms
terms l =
    and_then (byte_below 2 l)
    (λ flag l. and_then (amount_up_to 1_000_000 l) (λ fixed l. and_then (amount_up_to 1_000 l) (λ rate l. value (record { flag = flag; fixed = fixed; rate = rate }) l)))

-- Two bytes, the first below a and the second below b.
unfoldable pub two : ℕ → ℕ → List ℕ → Read Two
two a b l = and_then (byte_below a l) (λ x l. and_then (byte_below b l) (λ y l. value (record { one = x; other = y }) l))

-- Sites, count s from 1 to 8: may-join flag, join fixed amount, join rate.
abbrev pub with_site : ℕ → Sites → Terms → Sites
with_site i a t = record { count = a.count; may = set a.may i t.flag; fixed = set a.fixed i t.fixed; rate = set a.rate i t.rate }

unfoldable pub sites_section : List ℕ → Read Sites
sites_section = section 1 8 no_sites (storing terms with_site)

-- Relations, count n from 1 to 9: home site byte, index flag.
abbrev pub with_relation : ℕ → Relations → Two → Relations
with_relation i a t = record { count = a.count; home = set a.home i t.one; index = set a.index i t.other }

unfoldable pub relations_section : ℕ → List ℕ → Read Relations
relations_section s = section 1 9 no_relations (storing (two s 2) with_relation)

-- Joins, count n - 1: first relation, second relation.
abbrev pub with_join : ℕ → Joins → Two → Joins
with_join i a t = record { count = a.count; first = set a.first i t.one; second = set a.second i t.other }

unfoldable pub joins_section : ℕ → List ℕ → Read Joins
joins_section n = section (n - 1) (n - 1) no_joins (storing (two n n) with_join)

-- Lines, count s(s-1): open flag, fixed amount, rate; by sender, then receiver, the sender itself left out.
unfoldable pub line : ℕ → ℕ → Lines → List ℕ → Read Lines
line a b ls l = pick (eqb a b) (value ls l) (storing terms (with_line a) b ls l)

unfoldable pub sender : ℕ → ℕ → Lines → List ℕ → Read Lines
sender s a ls l = items (line a) s 0 ls l

unfoldable pub lines_section : ℕ → List ℕ → Read Lines
lines_section s l = and_then (count_field (s * (s - 1)) (s * (s - 1)) l) (λ m l. items (sender s) s 0 no_lines l)

-- Delivery, count 1: query site byte.
unfoldable pub delivery_section : ℕ → List ℕ → Read ℕ
delivery_section s l = and_then (count_field 1 1 l) (λ m l. byte_below s l)
