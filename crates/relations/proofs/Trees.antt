-- In a tree a join's second relation is outside its side. Growth takes a join for each relation that it adds, so growth that skips a join
-- has at most as many relations as there are joins, one too few for all; and with the second relation the side would be closed, so all.
use Prim.Native.Nat.{ℕ, zero, suc, ◌+◌, ◌-◌, ◌^◌, ◌≤◌, ◌<◌, min}
use mathlib.Core.Path.{◌≡◌, refl, sym, subst}
use native.Mathlib.Decide.{ℕ_discrete}
use native.Mathlib.Omega.{arith}
use lib.Count.{ones, ones-ones}
use Rattle.relations.specs.declared.Joins.{Joins}
use Rattle.relations.specs.Sets.{bit, Sub, all}
use Rattle.relations.specs.Growth.{first, second, along, grow, Closed}
use Rattle.relations.specs.Trees.{Tree, part, side}
use Rattle.relations.specs.Theorems.{SideApart}
use Rattle.relations.proofs.Bits.{bit_le, bit_pow, bit_pow_other, bit_all, all_below, sub_single}
use Rattle.relations.proofs.Counts.{ones_pow, ones_mono}
use Rattle.relations.proofs.Leads.{Leads, along_has, along_first, along_second, ones_along}
use Rattle.relations.proofs.Growth.{grow_keep, grow_has, grow_closed}
use Rattle.relations.proofs.Connected.{conn_all, enough}
use Rattle.relations.proofs.Sums.{sum, sum_lt, sum_ones}

-- 1 for a join in A other than x, else 0.
unfoldable pub held : Joins → ℕ → ℕ → ℕ → ℕ
held J x A i = min (min (bit A (first J i)) (bit A (second J i))) (1 - bit (2 ^ x) i)

pub held_both : (J : Joins) (x A i : ℕ) → bit A (first J i) ≡ 1 → bit A (second J i) ≡ 1 → (x ≡ i → ⊥) → held J x A i ≡ 1
unfolding held
held_both J x A i p q d = omega (arith, bit_pow_other x i d)

pub held_less : (J : Joins) (x A i : ℕ) → bit A (first J i) + bit A (second J i) ≤ 1 → held J x A i ≡ 0
unfolding held
held_less J x A i h = omega arith

pub held_one : (J : Joins) (x A i : ℕ) → held J x A i ≤ 1
unfolding held
held_one J x A i = omega arith

pub held_skipped : (J : Joins) (x A : ℕ) → held J x A x ≡ 0
unfolding held
held_skipped J x A = omega (arith, bit_pow x)

held_more : (J : Joins) (x A B i : ℕ) → Sub A B → held J x A i ≤ held J x B i
unfolding held
held_more J x A B i s = omega (arith, s (first J i), s (second J i))

-- Growth takes in at least as many joins as relations.
pub grow_counts : (J : Joins) (S x k T : ℕ) → sum J.count (held J x T) + ones (grow J S x k T) ≤ sum J.count (held J x (grow J S x k T)) + ones T
grow_counts J S x k T =
    grow_keep J S x (λ (A : ℕ). sum J.count (held J x T) + ones A ≤ sum J.count (held J x A) + ones T) (λ A i l o h.
    omega (arith, ones_along J A i o.half, h, more A i l o)) k T (omega arith)
  where
    more : (A i : ℕ) → i < J.count → Leads J S x A i → sum J.count (held J x A) < sum J.count (held J x (along J A i))
    more A i l o =
        sum_lt J.count (held J x A) (held J x (along J A i)) (λ j b. held_more J x A (along J A i) j (along_has J A i)) i l
        (omega (arith, held_less J x A i (omega (arith, o.half)), held_both J x (along J A i) i (along_first J A i) (along_second J A i) (λ e. o.other (sym e))))

-- Growth from one relation that skips a join has at most as many relations as there are joins.
pub grow_few : (J : Joins) (S x k r : ℕ) → x < J.count → ones (grow J S x k (2 ^ r)) ≤ J.count
grow_few J S x k r l =
    let grown = grow J S x k (2 ^ r) in
    let fewer = sum_lt J.count (held J x grown) (λ i. 1) (λ i b. held_one J x grown i) x l (omega (arith, held_skipped J x grown)) in
    omega (arith, grow_counts J S x k (2 ^ r), fewer, sum_ones J.count, ones_pow r)

-- The side of a join in a tree: it has the join's first relation, not its second, and no other join leads out of it.
module _ (J : Joins) (n : ℕ) (t : Tree J n) (e : ℕ) (l : e < J.count) where
  seed : Sub (2 ^ first J e) (all n)
  seed = sub_single (all n) (first J e) (bit_all n (first J e) (t.first_in e l))

  pub side_first : bit (side J n e) (first J e) ≡ 1
  unfolding side part
  side_first = omega (arith, grow_has J (all n) e n (2 ^ first J e) (first J e), bit_pow (first J e), bit_le (side J n e) (first J e))

  pub side_other : (i : ℕ) → i < J.count → (i ≡ e → ⊥) → bit (side J n e) (first J i) ≡ bit (side J n e) (second J i)
  unfolding side part
  side_other i b d =
      grow_closed J (all n) e n (2 ^ first J e) seed (enough n (all n) (first J e) (all_below n)) i b d (bit_all n (first J i) (t.first_in i b))
      (bit_all n (second J i) (t.second_in i b))

  side_few : ones (side J n e) ≤ J.count
  unfolding side part
  side_few = grow_few J (all n) e n (first J e) l

  pub side_second : bit (side J n e) (second J e) ≡ 0
  side_second = go (bit (side J n e) (second J e)) refl
    where
      go : (b : ℕ) → bit (side J n e) (second J e) ≡ b → bit (side J n e) (second J e) ≡ 0
      go zero p = p
      go (suc b) p =
          let closed : Closed J (all n) J.count (side J n e) = λ i h d f g.
          elim (ℕ_discrete i e) [
            | yes q ↦ subst (λ (j : ℕ). bit (side J n e) (first J j) ≡ bit (side J n e) (second J j)) (sym q)
                (omega (arith, side_first, p, bit_le (side J n e) (second J e)))
            | no q ↦ side_other i h q
          ] in
          let held_All = (conn_all J n t).whole (side J n e) closed (first J e) (bit_all n (first J e) (t.first_in e l)) side_first in
          absurd (omega (arith, side_few, ones_mono (all n) (side J n e) held_All, ones-ones n, t.joins))

pub side_apart : SideApart
side_apart J n t e l = (side_first J n t e l, side_second J n t e l)
