-- A tree's subqueries are counted by its table: one set more is one step of `count_below`.
use Prim.Native.Nat.{ℕ, zero, suc, ◌+◌, ◌^◌, ◌≤◌, ◌<◌}
use mathlib.Core.Path.{◌≡◌, refl, ◌∙◌}
use mathlib.Core.Bool.{Bool, true, false}
use mathlib.Core.List.{List}
use native.Mathlib.Numerals.{add-one}
use native.Mathlib.Omega.{arith}
use lib.ListN.{length, get_or, take}
use Rattle.std.specs.List.{count_by}
use Rattle.std.proofs.lemmas.List.Sums.{count_by_more_yes, count_by_more_no}
use Rattle.relations.specs.declared.Joins.{Joins}
use Rattle.relations.specs.Trees.{is_subquery, count_below}
use Rattle.relations.proofs.Loops.{few_sets}
use Rattle.subqueries.specs.Table.{Tabled, is_connected}
use Rattle.subqueries.proofs.Entries.{tested}

module _ (J : Joins) (l : List ℕ) (t : Tabled J l) where
  pub counted : (m : ℕ) → m ≤ 2 ^ (J.count + 1) → count_by is_connected (take m l) ≡ count_below J (J.count + 1) m
  unfolding count_below
  counted zero h = refl
  counted (suc m) h = go (is_subquery J (J.count + 1) m) refl (counted m (omega arith))
    where
      in_table : m < length l
      in_table = omega (arith, t.entries.long, few_sets J.count t.few)

      test : is_connected (get_or l m 0) ≡ is_subquery J (J.count + 1) m
      test = tested J l m (2 ^ (J.count + 1)) _ t refl (omega arith) refl

      go : (d : Bool) → is_subquery J (J.count + 1) m ≡ d → count_by is_connected (take m l) ≡ count_below J (J.count + 1) m → count_by is_connected (take (suc m) l) ≡ elim d [ true ↦ suc (count_below J (J.count + 1) m) | false ↦ count_below J (J.count + 1) m ]
      go true q below = omega (arith, rw add-one at (count_by_more_yes is_connected l m 0 in_table (test ∙ q)))
      go false q below = rw add-one at (count_by_more_no is_connected l m 0 in_table (test ∙ q)) ∙ below
