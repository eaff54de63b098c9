-- The heaviest queries. The trials are s times what the subqueries weigh where each weighs its joins. The sets of m + 1 joins have (m + 1) 2^m joins
-- together: half of them have any one join.
use Prim.Native.Nat.{ℕ, zero, suc, ◌+◌, ◌-◌, ◌*◌, ◌/◌, ◌^◌, ◌≤◌}
use mathlib.Core.Path.{◌≡◌, refl, ap, ◌∙◌}
use mathlib.Core.Bool.{Bool, true, false}
use native.Mathlib.Nat.{pow-succ', suc-mul, mul_left_comm, mul_assoc, mul-le-mul_left}
use native.Mathlib.Omega.{arith}
use lib.Count.{ones, ones_step}
use Rattle.relations.specs.declared.Joins.{Joins}
use Rattle.relations.specs.Trees.{is_subquery, Tree}
use Rattle.relations.specs.Stars.{Star}
use Rattle.relations.specs.Code.{or_none}
use Rattle.relations.proofs.Counts.{ones_zero, ones_pow}
use Rattle.relations.proofs.Sums.{sum, sum_none, sum_ones, sum_same, sum_add, sum_pairs}
use Rattle.relations.proofs.Weights.{weight, weighed_most}
use Rattle.relations.proofs.Stars.{star_weighs, star_of_lem}
use Rattle.relations.proofs.SubqueriesMost.{subqueries_most, star_subqueries}
use Rattle.query.specs.Choice.{pick}
use Rattle.tables.specs.Tables.{joins_below}
use Rattle.room.specs.Heaviest.{HeaviestLaw}

-- Twice i has i's ones, and twice i and 1 has one more.
ones_even : (i : ℕ) → ones (2 * i) ≡ ones i
ones_even i = let half : 2 * i / 2 ≡ i = omega arith in omega (arith, ones_step (2 * i), ap ones half)

ones_odd : (i : ℕ) → ones (2 * i + 1) ≡ 1 + ones i
ones_odd i = let half : (2 * i + 1) / 2 ≡ i = omega arith in omega (arith, ones_step (2 * i + 1), ap ones half)

ones_in_all : (m : ℕ) → sum (2 ^ suc m) ones ≡ suc m * 2 ^ m
unfolding sum
ones_in_all zero = omega (arith, ones_zero, ones_pow 0)
ones_in_all (suc m) =
    let twice : sum (2 ^ suc (suc m)) ones ≡ sum (2 * 2 ^ suc m) ones = ap (λ (k : ℕ). sum k ones) (pow-succ' 2 (suc m)) in
    let half : suc m * 2 ^ suc m ≡ 2 * (suc m * 2 ^ m) = ap (λ (x : ℕ). suc m * x) (pow-succ' 2 m) ∙ mul_left_comm (suc m) 2 (2 ^ m) in
    omega (
      arith,
      twice,
      sum_pairs (2 ^ suc m) ones,
      sum_same (2 ^ suc m) (λ i. ones (2 * i)) ones (λ i l. ones_even i),
      sum_add (2 ^ suc m) (λ i. ones (2 * i + 1)) (λ i. 1) ones (λ i l. ones_odd i),
      sum_ones (2 ^ suc m),
      ones_in_all m,
      half,
      suc-mul (suc m) (2 ^ suc m),
    )

joins_weighed : (J : Joins) (n m : ℕ) → joins_below J n m ≡ sum m (weight J n (λ k. k))
unfolding joins_below sum weight
joins_weighed J n zero = refl
joins_weighed J n (suc m) = go (is_subquery J n m) (joins_weighed J n m)
  where
    go : (b : Bool) → joins_below J n m ≡ sum m (weight J n (λ k. k)) → joins_below J n m + pick b (ones m - 1) 0 ≡ sum m (weight J n (λ k. k)) + or_none b (ones m - 1)
    go true e = omega (arith, e)
    go false e = omega (arith, e)

module _ (n : ℕ) (two : 2 ≤ n) (J : Joins) where
  -- All sets of a tree's joins, weighed.
  all_joins : J.count + 1 ≡ n → sum J.count (λ r. 0) + sum (2 ^ J.count) ones ≡ (n - 1) * 2 ^ (n - 2)
  all_joins e =
      let count : J.count ≡ suc (n - 2) = omega arith in
      let less : suc (n - 2) ≡ n - 1 = omega arith in
      omega (
        arith,
        sum_none J.count (λ r. 0) (λ i. refl),
        ap (λ (m : ℕ). sum (2 ^ m) ones) count,
        ones_in_all (n - 2),
        ap (λ (m : ℕ). m * 2 ^ (n - 2)) less,
      )

  joins_most : Tree J n → joins_below J n (2 ^ n) ≤ (n - 1) * 2 ^ (n - 2)
  joins_most t = omega (arith, joins_weighed J n (2 ^ n), weighed_most J n t (λ k. k), all_joins t.joins)

  star_joins : Star J n → joins_below J n (2 ^ n) ≡ (n - 1) * 2 ^ (n - 2)
  star_joins s = joins_weighed J n (2 ^ n) ∙ star_weighs J n s (omega (arith, s.tree.joins)) (λ k. k) ∙ all_joins s.tree.joins

  -- By n in place of the number of joins.
  all_sets : J.count + 1 ≡ n → 2 ^ J.count + J.count ≡ 2 ^ (n - 1) + n - 1
  all_sets e = let count : J.count ≡ n - 1 = omega arith in omega (arith, ap (λ (m : ℕ). 2 ^ m) count)

pub heaviest_law : HeaviestLaw
heaviest_law n two = record {
  subqueries_most = λ J t. omega (arith, subqueries_most J n t, all_sets n two J t.joins);
  trials_most = λ J t s. omega (arith, mul-le-mul_left s (joins_most n two J t), mul_assoc s (n - 1) (2 ^ (n - 2)));
  star_subqueries = λ J s. star_subqueries J n s (omega (arith, s.tree.joins)) ∙ all_sets n two J s.tree.joins;
  star_trials = λ J star s. omega (arith, ap (λ (x : ℕ). s * x) (star_joins n two J star), mul_assoc s (n - 1) (2 ^ (n - 2)));
  some_star = star_of_lem n (omega arith);
}
