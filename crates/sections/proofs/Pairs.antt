-- The pairs of Joins, told apart from their count: a count that is as due says nothing that is not known.
use Prim.Native.Nat.{ℕ, ◌-◌}
use native.Mathlib.Nat.{add-zero}
use native.Mathlib.Omega.{arith}
use mathlib.Core.Path.{◌≡◌}
use mathlib.Core.List.{List, ◌∷◌}
use lib.ListN.{length}
use borrow.Author.Tests.{le-ltb, le-leb}
use Rattle.sections.specs.Fields.{value, number, field, count_field, section}
use Rattle.sections.specs.Sections.{joins_section}

pub due_count : (m : ℕ) (l : List ℕ) → count_field m m (m ∷ l) ≡ value m l
unfolding field number
due_count m l = simp (le-ltb (length (m ∷ l)) 1 (omega arith), add-zero, le-leb m m (omega arith))

pub pairs_behind : (n v : ℕ) (l r : List ℕ) → value v r ≡ count_field (n - 1) (n - 1) l → v ≡ n - 1 → joins_section n ((n - 1) ∷ r) ≡ joins_section n l
unfolding joins_section section
pairs_behind n v l r e is = rw (due_count, ← e, is)
