-- The section Sizes: its loop passes over every set of relations and reads an amount where the set is a subquery.
use Prim.Native.Nat.{ℕ, ◌+◌, ◌-◌, ◌<◌}
use mathlib.Core.Path.{◌≡◌}
use mathlib.Core.Bool.{Bool, true, false}
use mathlib.Core.List.{List}
use lib.ListN.{set}
use Rattle.relations.specs.declared.Joins.{Joins}
use Rattle.relations.specs.Trees.{is_subquery}
use Rattle.relations.proofs.Loops.{few_sets}
use Rattle.subqueries.proofs.Entries.{tested}
use Rattle.sections.specs.Fields.{Read, refused, value, amount_up_to, items, storing}
use Rattle.sections.proofs.Loops.{items_done, items_no, items_on}
use Rattle.decoder.specs.Sizes.{sized}

module _ (J : Joins) (n : ℕ) (answer : Read (List ℕ)) (e S : ℕ) (a l : List ℕ) (so : answer ≡ items (sized J n) (e - S) S a l) (less : S < e)
    (b : Bool) (test : b ≡ is_subquery J n S) where
  pub size_none : b ≡ false → answer ≡ items (sized J n) (e - (S + 1)) (S + 1) a l
  unfolding sized
  size_none h = items_on (sized J n) answer e S a l so a l less (rw (← test, h))

  pub size_no : b ≡ true → (k : ℕ) → refused k ≡ amount_up_to 1_000_000_000 l → answer ≡ refused k
  unfolding sized storing
  size_no h k f = items_no (sized J n) answer e S a l so k less (rw (← test, h, ← f))

  pub size_on : b ≡ true → (v : ℕ) (r : List ℕ) → value v r ≡ amount_up_to 1_000_000_000 l → (c : List ℕ) → c ≡ set a S v →
      answer ≡ items (sized J n) (e - (S + 1)) (S + 1) c r
  unfolding sized storing
  size_on h v r f c is = items_on (sized J n) answer e S a l so c r less (rw (← test, h, ← f, is))

pub ruleset sizes = (size_none, size_no, size_on, items_done, tested, few_sets)
