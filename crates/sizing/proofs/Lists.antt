-- The two lists that the code fills: what storing a subquery's size and the relations that wait for it does to them.
use Prim.Native.Nat.{ℕ, ◌<◌}
use native.Mathlib.Decide.{ℕ_discrete}
use native.Mathlib.Omega.{arith}
use mathlib.Core.Path.{◌≡◌, sym, subst, ◌∙◌}
use mathlib.Core.List.{List}
use mathlib.Core.Logic.{◌⊎◌, inl, inr}
use lib.ListN.{set, length-set}
use lib.Seq.{get_or-set_same, get_or-set_other}
use Rattle.relations.specs.Code.{most_sets}
use Rattle.relations.specs.declared.Joins.{Joins}
use Rattle.sizing.specs.Worked.{worked_size}
use Rattle.sizing.specs.Code.{Waiting, Lists, lists_of, Long, Right, Same}

-- Both lists with an entry stored at X.
abbrev pub stored : Lists → (X size waiting : ℕ) → Lists
stored l X size waiting = lists_of (set l.sizes X size) (set l.waiting X waiting)

pub stored_long : (l : Lists) (X size waiting : ℕ) → Long l → Long (stored l X size waiting)
stored_long l X size waiting h = record {
  sizes_long = length-set l.sizes X size ∙ h.sizes_long;
  waiting_long = length-set l.waiting X waiting ∙ h.waiting_long;
}

-- Elsewhere they are as they were.
pub stored_other : (l : Lists) (X Y size waiting : ℕ) → (X ≡ Y → ⊥) → Same l (stored l X size waiting) Y
stored_other l X Y size waiting d = record {
  size = get_or-set_other l.sizes X Y size 0 (λ q. d (sym q));
  waiting = get_or-set_other l.waiting X Y waiting 0 (λ q. d (sym q));
}

pub same_trans : (a b c : Lists) (X : ℕ) → Same a b X → Same b c X → Same a c X
same_trans a b c X s t = record { size = t.size ∙ s.size; waiting = t.waiting ∙ s.waiting }

module _ (J : Joins) (n : ℕ) (rows divisors : List ℕ) where
  -- What is right stays right where nothing changes.
  pub same_right : (old new : Lists) (X : ℕ) → Same old new X → Right J n rows divisors old X → Right J n rows divisors new X
  same_right old new X s r = record { size = s.size ∙ r.size; waiting = subst (λ (M : ℕ). Waiting J n X M) (sym s.waiting) r.waiting }

  -- What is stored is right where it should be.
  pub stored_right :
      (l : Lists) (X size waiting : ℕ) → Long l → X < most_sets → size ≡ worked_size J n rows divisors X → Waiting J n X waiting →
      Right J n rows divisors (stored l X size waiting) X
  stored_right l X size waiting long h e w = record {
    size = get_or-set_same l.sizes X size 0 (omega (arith, long.sizes_long)) ∙ e;
    waiting = subst (λ (M : ℕ). Waiting J n X M) (sym (get_or-set_same l.waiting X waiting 0 (omega (arith, long.waiting_long)))) w;
  }

  -- So storing a right entry keeps all right ones.
  pub still_right :
      (l : Lists) (X Y size waiting : ℕ) → Right J n rows divisors (stored l X size waiting) X → Right J n rows divisors l Y →
      Right J n rows divisors (stored l X size waiting) Y
  still_right l X Y size waiting here r = elim (ℕ_discrete X Y) [
    | yes q ↦ subst (λ (Z : ℕ). Right J n rows divisors (stored l X size waiting) Z) q here
    | no d ↦ same_right l (stored l X size waiting) Y (stored_other l X Y size waiting d) r
  ]

-- Each place is as it was, or is one of some kind.
pub each_stored :
    (P : ℕ → Type 0) (old new : Lists) (X size waiting : ℕ) → P X → ((Y : ℕ) → Same old new Y ⊎ P Y) → (Y : ℕ) → Same old (stored new X size waiting) Y ⊎ P Y
each_stored P old new X size waiting here each Y = elim (ℕ_discrete X Y) [
  | yes q ↦ inr (subst P q here)
  | no d ↦ elim (each Y) [ inl s ↦ inl (same_trans old new (stored new X size waiting) Y s (stored_other new X Y size waiting d)) | inr p ↦ inr p ]
]
