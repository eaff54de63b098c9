-- What the entry of a set says: its three parts stand apart in the number, since there are at most eight joins; and in a tree the sets with one
-- join fewer than relations are the subqueries.
use Prim.Native.Nat.{ℕ, ◌+◌, ◌/◌, ◌%◌, ◌^◌, ◌≤◌, ◌<◌}
use mathlib.Core.Path.{◌≡◌, ap, ◌∙◌}
use mathlib.Core.Bool.{Bool, ◌&&◌}
use mathlib.Core.List.{List}
use mathlib.Core.Logic.{inl, inr}
use native.Mathlib.Nat.{eq-zero-or-pos}
use native.Mathlib.Omega.{arith}
use borrow.Author.Tests.{lt-ltb, ne_eqb}
use lib.Count.{ones, ones-le}
use lib.Dec.{eqb, ltb}
use lib.ListN.{get_or}
use lib.Pow.{pow_mono}
use Rattle.relations.specs.declared.Joins.{Joins}
use Rattle.relations.specs.Trees.{is_subquery, joins_in, join_bits, Tree}
use Rattle.relations.proofs.Counts.{ones_zero}
use Rattle.relations.proofs.JoinBits.{joins_most, bits_below}
use Rattle.relations.proofs.SubqueryCount.{subquery_by_count}
use Rattle.subqueries.specs.Table.{entry, Tabled, is_connected}

-- The three parts of an entry.
module _ (J : Joins) (S : ℕ) (few : J.count ≤ 8) where
  bits_few : join_bits J S J.count < 256
  bits_few = let most : 2 ^ J.count ≤ 2 ^ 8 = pow_mono {j = 8} few in omega (arith, bits_below J S J.count)

  pub entry_relations : entry J S / 65536 ≡ ones S
  unfolding entry
  entry_relations = omega (arith, joins_most J S J.count, bits_few)

  pub entry_count : entry J S / 256 % 256 ≡ joins_in J S J.count
  unfolding entry
  entry_count = omega (arith, joins_most J S J.count, bits_few)

  pub entry_joins : entry J S % 256 ≡ join_bits J S J.count
  unfolding entry
  entry_joins = omega (arith, joins_most J S J.count, bits_few)

  pub entry_most : (k : ℕ) → S < 2 ^ k → k ≤ 9 → entry J S < 2 ^ 20
  unfolding entry
  entry_most k h l = omega (arith, joins_most J S J.count, bits_few, ones-le k S h)

  -- In a tree the set is a subquery exactly where its entry has one join fewer than relations. The empty set has no relation, and no join to make up for it.
  pub connected : Tree J (J.count + 1) → S < 2 ^ (J.count + 1) → is_connected (entry J S) ≡ is_subquery J (J.count + 1) S
  unfolding is_connected
  connected t h = rw (entry_count, entry_relations) (elim (eq-zero-or-pos S) [ inl e ↦ empty e | inr p ↦ some p ])
    where
      test : is_subquery J (J.count + 1) S ≡ (ltb 0 S && eqb (joins_in J S J.count + 1) (ones S))
      test = subquery_by_count J (J.count + 1) t S h

      empty : S ≡ 0 → eqb (joins_in J S J.count + 1) (ones S) ≡ is_subquery J (J.count + 1) S
      empty e = rw (test, e, ones_zero) (ne_eqb (joins_in J 0 J.count + 1) 0 (λ q. omega arith))

      some : 0 < S → eqb (joins_in J S J.count + 1) (ones S) ≡ is_subquery J (J.count + 1) S
      some p = rw (test, lt-ltb 0 S p)

-- What a tree's table says of a set, as a loop over the sets below e has it.
pub tested : (J : Joins) (l : List ℕ) (S e : ℕ) (d : Bool) → Tabled J l → d ≡ is_connected (get_or l S 0) → S < e → e ≡ 2 ^ (J.count + 1) → d ≡ is_subquery J (J.count + 1) S
tested J l S e d t q h z = q ∙ ap is_connected (t.entries.each S (omega arith)) ∙ connected J S t.few t.tree (omega arith)
