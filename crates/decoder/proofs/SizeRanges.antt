-- What the section Sizes holds once it is read: each size is up to its limit, as each number read is.
use Prim.Native.Nat.{ℕ, ◌^◌, ◌≤◌}
use native.Mathlib.Omega.{arith}
use mathlib.Core.List.{List}
use lib.ListN.{replicate}
use Rattle.relations.specs.Code.{most_sets}
use Rattle.relations.specs.declared.Joins.{Joins}
use Rattle.relations.specs.Trees.{is_subquery, subqueries}
use Rattle.query.specs.Query.{UpTo}
use Rattle.query.proofs.Limits.{set_up_to, zeros_up_to}
use Rattle.query.proofs.Choice.{pick_all}
use Rattle.sections.specs.Fields.{field, amount_up_to}
use Rattle.sections.proofs.Gives.{Has, Holds, gives_so, gives_items, gives_storing, field_held, field_then}
use Rattle.decoder.specs.Sizes.{with_number, sized, sizes_section}

-- A lone number of four bytes.
pub number_held : (low high : ℕ) → Holds (λ v. (low ≤ v) × (v ≤ high)) 4 (field 4 3 low high)
number_held low high l = gives_so _ _ (field 4 3 low high l) (field_held 4 3 low high l (omega arith)) λ v r d. ((d.low_most, d.high_most), d.rest)

size_keeps : (J : Joins) (n S : ℕ) (a l : List ℕ) → UpTo 1_000_000_000 a → Has (UpTo 1_000_000_000) (sized J n S a l)
unfolding sized
size_keeps J n S a l h =
    pick_all (Has (UpTo 1_000_000_000)) (is_subquery J n S) _ _
    (λ t. gives_storing _ (UpTo 1_000_000_000) 4 (amount_up_to 1_000_000_000) with_number (number_held 0 1_000_000_000) (λ i b v m u. set_up_to _ b i v m.1 u) S a l h) (λ t. h)

pub sizes_in : (J : Joins) (n : ℕ) (l : List ℕ) → Has (UpTo 1_000_000_000) (sizes_section J n l)
unfolding sizes_section
sizes_in J n l =
    field_then _ 2 2 (subqueries J n) (subqueries J n) l _ (omega arith) λ v m c.
    gives_items (UpTo 1_000_000_000) (sized J n) (size_keeps J n) (2 ^ n) 0 (replicate most_sets 0) m (zeros_up_to _ most_sets)
