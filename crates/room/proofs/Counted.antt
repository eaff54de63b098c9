-- The figures of a tree. Each turn of the loop over its sets adds the joins of one set more: the table tells whether the set is a subquery, which has a
-- join fewer than relations. Both figures are few, as there are at most 512 sets of at most nine relations.
use Prim.Native.Nat.{ℕ, ◌+◌, ◌-◌, ◌*◌, ◌^◌, ◌≤◌, ◌<◌}
use native.Mathlib.Omega.{arith}
use mathlib.Core.Path.{◌≡◌, sym, ap, ◌∙◌}
use mathlib.Core.Bool.{Bool, true, false}
use mathlib.Core.List.{List}
use lib.Count.{ones, ones-le}
use lib.ListN.{get_or}
use lib.Pow.{pow_mono, pow_pos}
use mir.Syntax.{w64}
use mir.Val.{Fits}
use Rattle.relations.specs.declared.Joins.{Joins}
use Rattle.relations.specs.Trees.{Tree, subqueries}
use Rattle.relations.proofs.Counts.{ones_pos}
use Rattle.relations.proofs.Loops.{few_sets}
use Rattle.relations.proofs.SubqueriesMost.{subqueries_most}
use Rattle.subqueries.specs.Table.{Tabled, is_connected}
use Rattle.subqueries.proofs.Entries.{tested}
use Rattle.sizing.proofs.Products.{product_word}
use Rattle.tables.specs.Tables.{joins_below}
use Rattle.tables.proofs.Trials.{joins_none, joins_next, joins_below_lem}

-- A set that is not empty has a relation.
pub some_ones : (S o : ℕ) → o ≡ ones S → 1 ≤ S → 1 ≤ o
some_ones S o is some = omega (arith, ones_pos S some)

-- A set that the loop comes to, or its end; the joins in the subqueries below it are counted.
module _ (J : Joins) (l : List ℕ) (t : Tabled J l) (S e tried : ℕ) (end : e ≡ 2 ^ (J.count + 1)) (so : tried ≡ joins_below J (J.count + 1) S) where
  few : S ≤ e → (S ≤ 512) × (tried ≤ 4096)
  few low =
      let sets = few_sets J.count t.few in
      (omega arith, omega (arith, joins_below_lem J (J.count + 1) S (omega arith)))

  -- A turn.
  module _ (below : S < e) (o : ℕ) (is : o ≡ ones S) where
    pub tried_fits : Fits w64 (tried + (o - 1))
    tried_fits = let sets = few_sets J.count t.few in record { fits = omega (arith, few (omega arith), ones-le 9 S (omega arith)) }

    module _ (d : Bool) (test : d ≡ is_connected (get_or l S 0)) where
      pub turn_in : d ≡ true → tried + (o - 1) ≡ joins_below J (J.count + 1) (S + 1)
      turn_in h = omega (arith, joins_next J (J.count + 1) S true (sym (tested J l S e d t test below end) ∙ h))

  pub turn_out : S < e → (d : Bool) → d ≡ is_connected (get_or l S 0) → d ≡ false → tried ≡ joins_below J (J.count + 1) (S + 1)
  turn_out below d test h = omega (arith, joins_next J (J.count + 1) S false (sym (tested J l S e d t test below end) ∙ h))

  -- After the last set.
  pub all_counted : S ≤ e → e ≤ S → tried ≡ joins_below J (J.count + 1) (2 ^ (J.count + 1))
  all_counted h k = let last : S ≡ 2 ^ (J.count + 1) = omega arith in so ∙ ap (joins_below J (J.count + 1)) last

  pub few_counted : S ≤ e → tried ≤ 4096
  few_counted low = (few low).1

pub ruleset counts = (joins_none, few_sets, pow_pos, some_ones, tried_fits, turn_in, turn_out, all_counted, few_counted)

-- The subqueries are few too, so their cells are.
pub power_few : (m : ℕ) → m ≤ 8 → 2 ^ m ≤ 256
power_few m h = pow_mono {j = 8} h

pub subqueries_few : (J : Joins) (k : ℕ) → (J.count ≤ 8) × Tree J (J.count + 1) → k ≡ subqueries J (J.count + 1) → k ≤ 4096
subqueries_few J k h e = omega (arith, power_few J.count h.0, subqueries_most J (J.count + 1) h.1)

pub cells_fit : (k s : ℕ) → k ≤ 4096 → s ≤ 8 → Fits w64 (k * s)
cells_fit k s h less = product_word k s (omega arith) (omega arith)
