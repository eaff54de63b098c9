-- How many subqueries a tree has at most, and a star has: each weighs 1. There are as many sets of joins as 2^m, and m relations besides.
use Prim.Native.Nat.{ℕ, zero, suc, ◌+◌, ◌^◌, ◌<◌}
use mathlib.Core.Path.{◌≡◌, refl}
use mathlib.Core.Bool.{Bool, true, false}
use native.Mathlib.Omega.{arith}
use Rattle.relations.specs.declared.Joins.{Joins}
use Rattle.relations.specs.Trees.{is_subquery, count_below, subqueries}
use Rattle.relations.specs.Stars.{Star}
use Rattle.relations.specs.Code.{or_none}
use Rattle.relations.specs.Theorems.{SubqueriesMost}
use Rattle.relations.proofs.Sums.{sum, sum_ones}
use Rattle.relations.proofs.Weights.{weight, weighed_most}
use Rattle.relations.proofs.Stars.{star_weighs}

counted : (J : Joins) (n m : ℕ) → count_below J n m ≡ sum m (weight J n (λ k. 1))
unfolding count_below sum weight
counted J n zero = refl
counted J n (suc m) = go (is_subquery J n m) (counted J n m)
  where
    go : (b : Bool) → count_below J n m ≡ sum m (weight J n (λ k. 1))
        → ◌≡◌ {A = ℕ} (elim b [ true ↦ suc (count_below J n m) | false ↦ count_below J n m ]) (sum m (weight J n (λ k. 1)) + or_none b 1)
    go true e = omega (arith, e)
    go false e = omega (arith, e)

pub subqueries_most : SubqueriesMost
subqueries_most J n t = omega (arith, counted J n (2 ^ n), weighed_most J n t (λ k. 1), sum_ones J.count, sum_ones (2 ^ J.count))

pub star_subqueries : (J : Joins) (n : ℕ) → Star J n → 0 < J.count → subqueries J n ≡ 2 ^ J.count + J.count
star_subqueries J n s some = omega (arith, counted J n (2 ^ n), star_weighs J n s some (λ k. 1), sum_ones J.count, sum_ones (2 ^ J.count))
