-- How many subqueries have a number below a set's: none below set 1, one more past each subquery, and so no fewer below a greater set.
use Prim.Native.Nat.{ℕ, suc, ◌+◌, ◌≤◌}
use mathlib.Core.Path.{◌≡◌, refl}
use mathlib.Core.Bool.{Bool, true, false}
use native.Mathlib.Nat.{le_refl}
use native.Mathlib.Numerals.{add-one}
use native.Mathlib.Decide.{le_ind}
use native.Mathlib.Omega.{arith}
use Rattle.relations.specs.declared.Joins.{Joins}
use Rattle.relations.specs.Trees.{is_subquery, Subquery, count_below}

module _ (J : Joins) (n : ℕ) where
  -- The empty set is no subquery.
  pub count_first : count_below J n 1 ≡ 0
  unfolding count_below is_subquery
  count_first = refl

  pub count_next : (S : ℕ) → Subquery J n S → count_below J n (S + 1) ≡ count_below J n S + 1
  unfolding count_below
  count_next S s = rw (add-one S, add-one (count_below J n S), s, count_below)

  pub count_skip : (S : ℕ) → is_subquery J n S ≡ false → count_below J n (S + 1) ≡ count_below J n S
  unfolding count_below
  count_skip S s = rw (add-one S, s, count_below)

  pub count_mono : (S T : ℕ) → S ≤ T → count_below J n S ≤ count_below J n T
  unfolding count_below
  count_mono S T h = le_ind (λ (m : ℕ). count_below J n S ≤ count_below J n m) (le_refl _) (λ m k e. go m (is_subquery J n m) e) T h
    where
      go : (m : ℕ) (b : Bool) → count_below J n S ≤ count_below J n m → ◌≤◌ (count_below J n S) (elim b [ true ↦ suc (count_below J n m) | false ↦ count_below J n m ])
      go m true e = omega (arith, e)
      go m false e = e
