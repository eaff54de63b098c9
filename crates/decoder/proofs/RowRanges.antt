-- Row counts and divisors are from 1 to their limit, in every place of their lists; so the sizes worked out from them are up to theirs, and by either
-- form of the file every size is.
use Prim.Native.Nat.{ℕ, zero, suc, ◌-◌, ◌≤◌}
use native.Mathlib.Omega.{arith}
use mathlib.Core.Path.{refl}
use mathlib.Core.List.{List, [], ◌∷◌}
use lib.ListN.{get_or, set, replicate, get_or-replicate}
use Rattle.relations.specs.declared.Joins.{Joins}
use Rattle.query.specs.Query.{UpTo}
use Rattle.query.proofs.Limits.{set_up_to, up_to_each}
use Rattle.sizing.specs.Code.{Counts}
use Rattle.sizing.proofs.Most.{worked_most}
use Rattle.sections.specs.Fields.{from_one_to}
use Rattle.sections.proofs.Gives.{Has, gives_then, gives_section}
use Rattle.decoder.specs.declared.Form.{Form}
use Rattle.decoder.specs.declared.Form.TheVariants as form
use Rattle.decoder.specs.Sizes.{with_number, counts_section, rows_sections, sizes_by}
use Rattle.decoder.proofs.SizeRanges.{number_held, sizes_in}

-- A place stays from 1 on where numbers from 1 on are stored.
set_from_one : (l : List ℕ) (i v j : ℕ) → 1 ≤ v → 1 ≤ get_or l j 0 → 1 ≤ get_or (set l i v) j 0
set_from_one [] i v j h k = k
set_from_one (x ∷ l) zero v zero h k = h
set_from_one (x ∷ l) zero v (suc j) h k = k
set_from_one (x ∷ l) (suc i) v zero h k = k
set_from_one (x ∷ l) (suc i) v (suc j) h k = set_from_one l i v j h k

all_ones : Counts (replicate 9 1)
all_ones = record { some = λ i h. omega (arith, get_or-replicate {A = ℕ} 9 i 1 0 h); most = up_to_each 1_000_000 (replicate 9 1) refl }

pub counts_in : (m : ℕ) (l : List ℕ) → Has Counts (counts_section m l)
unfolding counts_section
counts_in m =
    gives_section _ Counts 4 m m (λ c. replicate 9 1) (from_one_to 1_000_000) with_number (number_held 1 1_000_000) (λ n c. all_ones)
    (λ i a v b h. record { some = λ j below. set_from_one a i v j b.0 (h.some j below); most = set_up_to _ a i v b.1 h.most })

rows_in : (J : Joins) (n : ℕ) (l : List ℕ) → Has (UpTo 1_000_000_000) (rows_sections J n l)
unfolding rows_sections
rows_in J n l =
    gives_then _ _ (counts_section n l) _ (counts_in n l) λ rows m r.
    gives_then _ _ (counts_section (n - 1) m) _ (counts_in (n - 1) m) λ divisors o d. worked_most J n rows divisors r

pub sizes_by_in : (f : Form) (J : Joins) (n : ℕ) (l : List ℕ) → Has (UpTo 1_000_000_000) (sizes_by f J n l)
sizes_by_in form.Sizes J n l = sizes_in J n l
sizes_by_in form.Rows J n l = rows_in J n l
