-- The joins in the subqueries below a set, which the trials count: none below set 1, as the empty set has no relation; each set adds its relations less
-- one where it is a subquery; and they are few, since a set below 512 has at most nine relations.
use Prim.Native.Nat.{ℕ, zero, suc, ◌+◌, ◌-◌, ◌*◌, ◌^◌, ◌≤◌}
use native.Mathlib.Nat.{le_refl}
use native.Mathlib.Numerals.{add-one}
use native.Mathlib.Omega.{arith}
use mathlib.Core.Path.{◌≡◌, refl, sym, ap, ◌∙◌}
use mathlib.Core.Bool.{Bool, true, false}
use lib.Count.{ones, ones-le, ones-ones}
use Rattle.relations.specs.Code.{most_sets}
use Rattle.relations.specs.declared.Joins.{Joins}
use Rattle.relations.specs.Sets.{all}
use Rattle.relations.specs.Trees.{is_subquery, Tree}
use Rattle.relations.proofs.Bits.{all_below}
use Rattle.relations.proofs.Counts.{ones_zero}
use Rattle.relations.proofs.Subqueries.{subqueries_law}
use Rattle.query.specs.Choice.{pick}
use Rattle.tables.specs.Tables.{joins_below}

pub joins_none : (J : Joins) (n : ℕ) → 0 ≡ joins_below J n 1
unfolding joins_below
joins_none J n = go (is_subquery J n 0)
  where
    go : (b : Bool) → 0 ≡ 0 + pick b (ones 0 - 1) 0
    go true = omega (arith, ones_zero)
    go false = refl

pub joins_next : (J : Joins) (n S : ℕ) (b : Bool) → is_subquery J n S ≡ b → joins_below J n (S + 1) ≡ joins_below J n S + pick b (ones S - 1) 0
unfolding joins_below
joins_next J n S b e = rw (add-one S, e)

pub joins_below_lem : (J : Joins) (n m : ℕ) → m ≤ most_sets → joins_below J n m ≤ 8 * m
unfolding joins_below
joins_below_lem J n zero h = le_refl _
joins_below_lem J n (suc m) h = go (is_subquery J n m) (joins_below_lem J n m (omega arith))
  where
    go : (b : Bool) → joins_below J n m ≤ 8 * m → joins_below J n m + pick b (ones m - 1) 0 ≤ 8 * suc m
    go true f = omega (arith, ones-le 9 m h)
    go false f = omega arith

-- The whole query adds its own joins to those of all smaller subqueries.
pub joins_whole : (J : Joins) (n : ℕ) → Tree J n → joins_below J n (2 ^ n) ≡ joins_below J n (all n) + J.count
joins_whole J n tree =
    let last : all n + 1 ≡ 2 ^ n = omega (arith, all_below n) in
    ap (joins_below J n) (sym last) ∙ omega (arith, joins_next J n (all n) true (subqueries_law J n tree).whole, ones-ones n, tree.joins)
