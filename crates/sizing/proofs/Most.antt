-- The list of worked sizes, entry by entry: a subquery's stands at its number, and everything else is 0. None is above the most that a size may be.
use Prim.Native.Nat.{ℕ, zero, suc, ◌^◌, ◌≤◌, ◌<◌}
use native.Mathlib.Nat.{eq-or-lt_of_le, le_of_suc-le-suc}
use native.Mathlib.Omega.{arith}
use mathlib.Core.Path.{◌≡◌, sym, ap, subst, ◌∙◌}
use mathlib.Core.Bool.{Bool, true, false}
use mathlib.Core.List.{List}
use mathlib.Core.Logic.{inl, inr}
use lib.ListN.{length, get_or, set, length-set, length-replicate}
use lib.Seq.{get_or-set_same, get_or-set_other}
use Rattle.relations.specs.Code.{most_sets}
use Rattle.relations.specs.declared.Joins.{Joins}
use Rattle.relations.specs.Trees.{is_subquery, Subquery}
use Rattle.relations.proofs.Leads.{never_both}
use Rattle.query.specs.Choice.{pick}
use Rattle.query.specs.Query.{UpTo}
use Rattle.query.proofs.Choice.{pick_all}
use Rattle.query.proofs.Limits.{set_up_to, zeros_up_to}
use Rattle.sizing.specs.Worked.{most_size, worked_size, sizes_below, worked_sizes}
use Rattle.sizing.specs.Theorems.{WorkedMost}
use Rattle.sizing.proofs.Products.{worked_upto}

-- A place for each set, and 0 where a set is no subquery.
pub record SizesIn (J : Joins) (n : ℕ) (l : List ℕ) : Type 0 where
  pub long : length l ≡ most_sets
  pub others : (S : ℕ) → is_subquery J n S ≡ false → get_or l S 0 ≡ 0

module _ (J : Joins) (n : ℕ) (size : ℕ → ℕ) where
  pub sizes_in : (m : ℕ) → SizesIn J n (sizes_below J n size m)
  unfolding sizes_below
  sizes_in zero = record { long = length-replicate {A = ℕ} most_sets 0; others = λ S h. omega (arith, zeros_up_to 0 most_sets S) }
  sizes_in (suc m) =
      let before = sizes_in m in
      pick_all (SizesIn J n) (is_subquery J n m) _ _
      (λ t. record {
        long = length-set (sizes_below J n size m) m (size m) ∙ before.long;
        others = λ S h. get_or-set_other (sizes_below J n size m) m S (size m) 0 (λ e. never_both (is_subquery J n S) (ap (is_subquery J n) e ∙ t) h) ∙ before.others S h;
      })
      (λ t. before)

  pub sizes_at : (m i : ℕ) → i < m → m ≤ most_sets → Subquery J n i → get_or (sizes_below J n size m) i 0 ≡ size i
  unfolding sizes_below
  sizes_at zero i h k s = absurd (omega arith)
  sizes_at (suc m) i h k s = elim (eq-or-lt_of_le (le_of_suc-le-suc h)) [
    | inl q ↦ subst (λ (x : ℕ). get_or (sizes_below J n size (suc m)) x 0 ≡ size x) (sym q) (last (is_subquery J n m) (ap (is_subquery J n) (sym q) ∙ s))
    | inr l ↦ (
        let below = sizes_at m i l (omega arith) s in
        pick_all (λ a. get_or a i 0 ≡ size i) (is_subquery J n m) (set (sizes_below J n size m) m (size m)) (sizes_below J n size m)
        (λ t. get_or-set_other (sizes_below J n size m) m i (size m) 0 (λ q. omega arith) ∙ below) (λ t. below))
  ]
    where
      last : (d : Bool) → d ≡ true → get_or (pick d (set (sizes_below J n size m) m (size m)) (sizes_below J n size m)) m 0 ≡ size m
      last true e = get_or-set_same (sizes_below J n size m) m (size m) 0 (omega (arith, (sizes_in m).long))
      last false e = absurd (cc)

  pub sizes_upto : ((S : ℕ) → size S ≤ most_size) → (m : ℕ) → UpTo most_size (sizes_below J n size m)
  unfolding sizes_below
  sizes_upto h zero = zeros_up_to most_size most_sets
  sizes_upto h (suc m) =
      pick_all (UpTo most_size) (is_subquery J n m) (set (sizes_below J n size m) m (size m)) (sizes_below J n size m)
      (λ t. set_up_to most_size (sizes_below J n size m) m (size m) (h m) (sizes_upto h m)) (λ t. sizes_upto h m)

pub worked_sizes_is : (J : Joins) (n : ℕ) (rows divisors : List ℕ) → SizesIn J n (worked_sizes J n rows divisors)
unfolding worked_sizes
worked_sizes_is J n rows divisors = sizes_in J n (worked_size J n rows divisors) (2 ^ n)

pub worked_most : WorkedMost
unfolding worked_sizes
worked_most J n rows divisors c = sizes_upto J n (worked_size J n rows divisors) (worked_upto J n rows divisors c) (2 ^ n)
