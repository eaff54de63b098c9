-- How many bytes each section takes: its count, and its items one after another.
use Prim.Native.Nat.{ℕ, suc, ◌+◌, ◌-◌, ◌*◌, ◌^◌, ◌<◌, min}
use native.Mathlib.Nat.{suc-mul, zero-add}
use native.Mathlib.Omega.{arith}
use mathlib.Core.Path.{◌≡◌, refl}
use mathlib.Core.Bool.{Bool, true, false}
use mathlib.Core.List.{List}
use lib.ListN.{length, replicate}
use lib.Dec.{eqb}
use borrow.Author.Tests.{eqb-true, eqb-false}
use Rattle.relations.specs.Code.{most_sets}
use Rattle.relations.specs.declared.Joins.{Joins}
use Rattle.relations.specs.Trees.{is_subquery, count_below, subqueries}
use Rattle.query.specs.declared.Lines.{Lines}
use Rattle.query.specs.Choice.{pick}
use Rattle.query.specs.Terms.{with_line}
use Rattle.query.specs.Zeros.{no_sites, no_relations, no_joins, no_lines}
use Rattle.query.proofs.Choice.{pick_all}
use Rattle.sections.specs.Fields.{Read, value, byte_below, amount_up_to, from_one_to, items, storing}
use Rattle.sections.specs.Sections.{terms, two, with_site, sites_section, with_relation, relations_section, with_join, joins_section}
use Rattle.sections.specs.Sections.{line, sender, lines_section, delivery_section}
use Rattle.sections.proofs.Gives.{Gives, gives_so}
use Rattle.decoder.specs.Sizes.{with_number, sized, sizes_section, counts_section, rows_sections}
use Rattle.files.specs.Length.{section_length, rows_length}
use Rattle.files.proofs.Lengths.{Takes, field_takes, field_next, takes_then, items_take, storing_takes, section_takes}

-- Sites, relations and joins, by their items.
terms_take : Takes (λ t. 9) terms
unfolding terms
terms_take l =
    field_next _ 1 3 0 1 l _ (omega arith) λ flag m e.
    field_next _ 4 3 0 1_000_000 m _ (omega arith) λ fixed n f.
    field_next _ 4 3 0 1_000 n _ (omega arith) λ rate o g. omega arith

two_take : (a b : ℕ) → Takes (λ t. 2) (two a b)
unfolding two
two_take a b l =
    field_next _ 1 3 0 (a - 1) l _ (omega arith) λ x m e.
    field_next _ 1 3 0 (b - 1) m _ (omega arith) λ y n f. omega arith

pub sites_take : Takes (λ a. section_length 9 a.count) sites_section
unfolding sites_section
sites_take = section_takes (λ a. a.count) 9 1 8 no_sites terms with_site terms_take (λ n c. refl) (λ i a t. refl)

pub relations_take : (s : ℕ) → Takes (λ a. section_length 2 a.count) (relations_section s)
unfolding relations_section
relations_take s = section_takes (λ a. a.count) 2 1 9 no_relations (two s 2) with_relation (two_take s 2) (λ n c. refl) (λ i a t. refl)

pub joins_take : (n : ℕ) → Takes (λ a. section_length 2 a.count) (joins_section n)
unfolding joins_section
joins_take n = section_takes (λ a. a.count) 2 (n - 1) (n - 1) no_joins (two n n) with_join (two_take n n) (λ m c. refl) (λ i a t. refl)

-- Sizes: an amount for each subquery.
size_takes : (J : Joins) (n S : ℕ) (a l : List ℕ) → Gives (λ b r. length l + 4 * count_below J n S ≡ 4 * count_below J n (suc S) + length r) (sized J n S a l)
unfolding sized count_below
size_takes J n S a l = go (is_subquery J n S)
  where
    amount : List ℕ → Read ℕ
    amount = amount_up_to 1_000_000_000

    go : (d : Bool)
        → Gives (λ b r. length l + 4 * count_below J n S ≡ 4 * elim d [ true ↦ suc (count_below J n S) | false ↦ count_below J n S ] + length r)
        (pick d (storing amount with_number S a l) (value a l))
    go true = gives_so _ _ (storing amount with_number S a l) (storing_takes 4 amount with_number (field_takes 4 3 0 1_000_000_000 (omega arith)) S a l) λ b r e. omega arith
    go false = omega arith

pub sizes_take : (J : Joins) (n : ℕ) → Takes (λ a. 2 + 4 * subqueries J n) (sizes_section J n)
unfolding sizes_section count_below
sizes_take J n l =
    field_next _ 2 2 (subqueries J n) (subqueries J n) l _ (omega arith) λ v m e.
    gives_so _ _ (items (sized J n) (2 ^ n) 0 (replicate most_sets 0) m)
    (items_take (λ S. 4 * count_below J n S) (sized J n) (2 ^ n) (λ S below. size_takes J n S) (2 ^ n) 0 (replicate most_sets 0) m (zero-add (2 ^ n))) λ a r g. omega arith

-- Row counts and divisors, by the count that is due.
counts_take : (m : ℕ) → Takes (λ a. section_length 4 m) (counts_section m)
unfolding counts_section
counts_take m =
    section_takes (λ a. m) 4 m m (λ c. replicate 9 1) (from_one_to 1_000_000) with_number (field_takes 4 3 1 1_000_000 (omega arith)) (λ n c. omega arith) (λ i a t. refl)

pub rows_take : (J : Joins) (n : ℕ) → Takes (λ a. rows_length n) (rows_sections J n)
unfolding rows_sections
rows_take J n l =
    takes_then _ _ (counts_section n) l _ (counts_take n) λ rows m e.
    takes_then _ _ (counts_section (n - 1)) m _ (counts_take (n - 1)) λ divisors o f. omega arith

-- Lines: terms for each receiver but the sender. The receivers below b other than a are those below a and those above it.
others : ℕ → ℕ → ℕ
others a b = min a b + (b - suc a)

line_takes : (a b : ℕ) (ls : Lines) (l : List ℕ) → Gives (λ c r. length l + 9 * others a b ≡ 9 * others a (suc b) + length r) (line a b ls l)
unfolding line others
line_takes a b ls l =
    pick_all (Gives (λ c r. length l + 9 * others a b ≡ 9 * others a (suc b) + length r)) (eqb a b) _ _ (λ own. omega (arith, eqb-true a b own))
    (λ other. gives_so _ _ (storing terms (with_line a) b ls l) (storing_takes 9 terms (with_line a) terms_take b ls l) λ c r e. omega (arith, eqb-false a b other))

sender_takes : (s a : ℕ) → a < s → (ls : Lines) → Takes (λ b. 9 * (s - 1)) (sender s a ls)
unfolding sender others
sender_takes s a below ls l =
    gives_so _ _ (items (line a) s 0 ls l) (items_take (λ b. 9 * others a b) (line a) s (λ b in-s. line_takes a b) s 0 ls l (zero-add s)) λ c r e. omega arith

pub lines_take : (s : ℕ) → Takes (λ a. section_length 9 (s * (s - 1))) (lines_section s)
unfolding lines_section
lines_take s l =
    field_next _ 1 2 (s * (s - 1)) (s * (s - 1)) l _ (omega arith) λ v m e.
    gives_so _ _ (items (sender s) s 0 no_lines m)
    (items_take (λ a. 9 * (a * (s - 1))) (sender s) s
    (λ a below ls o. gives_so _ _ (sender s a ls o) (sender_takes s a below ls o) λ c r g. omega (arith, suc-mul a (s - 1))) s 0 no_lines m (zero-add s)) λ c r g. omega arith

pub delivery_takes : (s : ℕ) → Takes (λ t. section_length 1 1) (delivery_section s)
unfolding delivery_section
delivery_takes s l =
    field_next _ 1 2 1 1 l _ (omega arith) λ v m e.
    gives_so _ _ (byte_below s m) (field_takes 1 3 0 (s - 1) (omega arith) m) λ t r f. omega arith
