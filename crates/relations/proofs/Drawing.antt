-- What drawn joins and the test of the tree show: a tree, and sets that growth may start from.
use Prim.Native.Nat.{ℕ, ◌+◌, ◌^◌, ◌<◌}
use mathlib.Core.Path.{◌≡◌, refl, sym, ◌∙◌, subst}
use mathlib.Core.Bool.{Bool, true}
use mathlib.Core.List.{List}
use native.Mathlib.Omega.{arith}
use lib.ListN.{take}
use Rattle.relations.specs.declared.Joins.{Joins}
use Rattle.relations.specs.Sets.{Sub, all}
use Rattle.relations.specs.Trees.{reaches, Tree}
use Rattle.relations.specs.Code.{Drawn, EndsOf, ends_of, Growable}
use Rattle.relations.proofs.Bits.{bit_all, sub_single, all_below}
use Rattle.relations.proofs.Listed.{listed_front}

pub tree_of : (J : Joins) (t : Bool) → Drawn J → t ≡ reaches J (J.count + 1) → t ≡ true → Tree J (J.count + 1)
tree_of J t d q h = record { joins = refl; first_in = d.first_in; second_in = d.second_in; reached = sym q ∙ h }

-- Growth within all relations may start from each.
pub single_growable :
    (J : Joins) (l : List ℕ) (r S A : ℕ) → Drawn J → EndsOf J l J.count → r < J.count + 1 → S ≡ all (J.count + 1) → A ≡ 2 ^ r →
    Growable J (take J.count l) S A
single_growable J l r S A d g h p q =
    record {
      drawn = d;
      ends = listed_front l (ends_of J) 8 J.count g d.few;
      in_all = omega (arith, all_below (J.count + 1));
      taken_in = subst (λ (B : ℕ). Sub B S) (sym q) (subst (λ (B : ℕ). Sub (2 ^ r) B) (sym p) (sub_single (all (J.count + 1)) r (bit_all (J.count + 1) r h)));
    }
