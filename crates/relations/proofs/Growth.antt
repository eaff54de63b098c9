-- Growth is the least closed set that holds what it starts from: each addition stays within every closed set, and with enough steps none is left.
-- So the number of steps does not matter once it is enough, nor which leading join is followed first.
use Prim.Native.Nat.{ℕ, zero, suc, ◌+◌, ◌≤◌, ◌<◌}
use mathlib.Core.Path.{◌≡◌, refl, sym, ap, ◌∙◌, subst}
use mathlib.Core.Bool.{Bool, true, false}
use mathlib.Core.Logic.{◌⊎◌, inl, inr}
use native.Mathlib.Nat.{eq-or-lt_of_le}
use native.Mathlib.Omega.{arith}
use lib.Count.{ones}
use Rattle.relations.specs.declared.Joins.{Joins}
use Rattle.relations.specs.Sets.{Sub}
use Rattle.relations.specs.Growth.{first, second, leads, along, step, grow, Closed}
use Rattle.relations.specs.Theorems.{Grown, GrowthLeast}
use Rattle.relations.proofs.Bits.{bit_le, sub_antisym}
use Rattle.relations.proofs.Counts.{sub_full}
use Rattle.relations.proofs.Leads.{never_both, Leads, leads_means, leads_not, along_has, along_within, ones_along}

-- The set that A grows to is one set.
pub grown_unique : (J : Joins) (S x A B C : ℕ) → Grown J S x A B → Grown J S x A C → B ≡ C
grown_unique J S x A B C b c = sub_antisym B C (b.least C c.closed c.has) (c.least B b.closed b.has)

module _ (J : Joins) (S x : ℕ) where
  -- A step follows the lowest leading join, or changes nothing where none leads.
  pub step_none : (A m e : ℕ) → ((i : ℕ) → e ≤ i → i < e + m → leads J S x A i ≡ false) → step J S x A m e ≡ A
  unfolding step
  step_none A zero e none = refl
  step_none A (suc m) e none = go (leads J S x A e) (none e (omega arith) (omega arith)) (step_none A m (suc e) (λ i l h. none i (omega arith) (omega arith)))
    where
      go : (t : Bool) → t ≡ false → step J S x A m (suc e) ≡ A → ◌≡◌ {A = ℕ} (elim t [ true ↦ along J A e | false ↦ step J S x A m (suc e) ]) A
      go true h later = absurd (never_both true refl h)
      go false h later = later

  pub step_at :
      (A m e i : ℕ) → e ≤ i → i < e + m → ((j : ℕ) → e ≤ j → j < i → leads J S x A j ≡ false) → leads J S x A i ≡ true
      → step J S x A m e ≡ along J A i
  unfolding step
  step_at A zero e i l h none here = omega arith
  step_at A (suc m) e i l h none here =
      go (leads J S x A e) refl (eq-or-lt_of_le l) (λ l'. step_at A m (suc e) i l' (omega arith) (λ j a b. none j (omega arith) b) here)
    where
      go : (t : Bool) → leads J S x A e ≡ t → (e ≡ i) ⊎ (e < i) → (e < i → step J S x A m (suc e) ≡ along J A i)
          → ◌≡◌ {A = ℕ} (elim t [ true ↦ along J A e | false ↦ step J S x A m (suc e) ]) (along J A i)
      go true p (inl q) later = ap (along J A) q
      go true p (inr q) later = absurd (never_both (leads J S x A e) p (none e (omega arith) q))
      go false p (inl q) later = absurd (never_both (leads J S x A e) (ap (leads J S x A) q ∙ here) p)
      go false p (inr q) later = later q

  -- The lowest leading join of e, e + 1, .., if there is one.
  abbrev Lowest : ℕ → ℕ → ℕ → Type 0
  Lowest A m e =
      ((i : ℕ) × (e ≤ i) × (i < e + m) × ((j : ℕ) → e ≤ j → j < i → leads J S x A j ≡ false) × (leads J S x A i ≡ true))
      ⊎ ((i : ℕ) → e ≤ i → i < e + m → leads J S x A i ≡ false)

  -- None from e on, where e does not lead out and none after it does.
  none_from : (A n e : ℕ) → leads J S x A e ≡ false → ((j : ℕ) → e < j → j < n → leads J S x A j ≡ false) → (j : ℕ) → e ≤ j → j < n → leads J S x A j ≡ false
  none_from A n e p none j a b = elim (eq-or-lt_of_le a) [ inl q ↦ ap (leads J S x A) (sym q) ∙ p | inr q ↦ none j q b ]

  seek : (A m e : ℕ) → Lowest A m e
  seek A zero e = inr (λ i l h. absurd (omega arith))
  seek A (suc m) e = go (leads J S x A e) refl (seek A m (suc e))
    where
      go : (t : Bool) → leads J S x A e ≡ t → Lowest A m (suc e) → Lowest A (suc m) e
      go true p later = inl (e, omega arith, omega arith, λ j l h. absurd (omega arith), p)
      go false p (inl (i, l, h, none, here)) = inl (i, omega arith, omega arith, none_from A i e p none, here)
      go false p (inr none) = inr (none_from A (e + suc m) e p (λ j a b. none j a (omega arith)))

  pub closed_of_none : (A : ℕ) → ((i : ℕ) → i < J.count → leads J S x A i ≡ false) → Closed J S x A
  closed_of_none A none e l d p q = leads_not J S x A e (none e l) d p q

  -- One step of growth: a join leads out and is followed, or the set is closed and stays.
  abbrev Next : ℕ → Type 0
  Next A =
      ((i : ℕ) × (i < J.count) × Leads J S x A i × (step J S x A J.count 0 ≡ along J A i))
      ⊎ (Closed J S x A × (step J S x A J.count 0 ≡ A))

  one_step : (A : ℕ) → Next A
  one_step A = go (seek A J.count 0)
    where
      go : Lowest A J.count 0 → Next A
      go (inl (i, l, h, none, here)) = inl (i, omega arith, leads_means J S x A i here, step_at A J.count 0 i l h none here)
      go (inr none) = inr (closed_of_none A (λ i l. none i (omega arith) (omega arith)), step_none A J.count 0 none)

  -- What each addition keeps, growth keeps.
  pub grow_keep :
      (P : ℕ → Type 0) → ((A i : ℕ) → i < J.count → Leads J S x A i → P A → P (along J A i)) → (k A : ℕ) → P A → P (grow J S x k A)
  unfolding grow
  grow_keep P keep zero A p = p
  grow_keep P keep (suc k) A p = grow_keep P keep k (step J S x A J.count 0) (go (one_step A))
    where
      go : Next A → P (step J S x A J.count 0)
      go (inl (i, l, o, e)) = subst P (sym e) (keep A i l o p)
      go (inr (c, e)) = subst P (sym e) p

  pub grow_has : (k A : ℕ) → Sub A (grow J S x k A)
  grow_has k A =
      grow_keep (λ (B : ℕ). Sub A B) (λ B i l o s r. omega (arith, s r, along_has J B i r)) k A (λ r. omega arith)

  pub grow_within : (k A : ℕ) → Sub A S → Sub (grow J S x k A) S
  grow_within k A s = grow_keep (λ (B : ℕ). Sub B S) (λ B i l o t. along_within J B S i t o.first_in o.second_in) k A s

  -- A closed set that holds B holds what a join leading out of B brings.
  pub closed_along : (B C i : ℕ) → i < J.count → Leads J S x B i → Closed J S x C → Sub B C → Sub (along J B i) C
  closed_along B C i l o c s =
      let same = c i l o.other o.first_in o.second_in in
      let f = s (first J i) in
      let g = s (second J i) in
      along_within J B C i s (omega (arith, o.half, bit_le C (first J i), bit_le C (second J i))) (omega (arith, o.half, bit_le C (first J i), bit_le C (second J i)))

  pub grow_least : (k A C : ℕ) → Closed J S x C → Sub A C → Sub (grow J S x k A) C
  grow_least k A C c s = grow_keep (λ (B : ℕ). Sub B C) (λ B i l o t. closed_along B C i l o c t) k A s

  -- Growth of a closed set is that set.
  pub grow_still : (k A : ℕ) → Closed J S x A → grow J S x k A ≡ A
  grow_still k A c = sub_antisym (grow J S x k A) A (grow_least k A A c (λ r. omega arith)) (grow_has k A)

  pub grow_closed : (k A : ℕ) → Sub A S → ones S ≤ ones A + k → Closed J S x (grow J S x k A)
  unfolding grow
  grow_closed zero A s h = subst (λ (B : ℕ). Closed J S x B) (sym (sub_full A S s (omega arith))) (λ e l d p q. omega arith)
  grow_closed (suc k) A s h = go (one_step A) (grow_closed k (step J S x A J.count 0))
    where
      go : Next A
          → (Sub (step J S x A J.count 0) S → ones S ≤ ones (step J S x A J.count 0) + k → Closed J S x (grow J S x k (step J S x A J.count 0)))
          → Closed J S x (grow J S x k (step J S x A J.count 0))
      go (inl (i, l, o, e)) later =
          later (subst (λ (B : ℕ). Sub B S) (sym e) (along_within J A S i s o.first_in o.second_in))
          (omega (arith, ap ones e, ones_along J A i o.half))
      go (inr (c, e)) later = subst (λ (B : ℕ). Closed J S x B) (sym (ap (grow J S x k) e ∙ grow_still k A c)) c

pub growth_least : GrowthLeast
growth_least J S x k A s h =
    record { has = grow_has J S x k A; within = grow_within J S x k A s; closed = grow_closed J S x k A s h; least = λ C c t. grow_least J S x k A C c t }

-- Growth may begin with any join that leads out.
pub grow_add : (J : Joins) (S x A k i : ℕ) → Sub A S → ones S ≤ ones A + k → i < J.count → Leads J S x A i → grow J S x k (along J A i) ≡ grow J S x k A
grow_add J S x A k i s h l o = grown_unique J S x A (grow J S x k (along J A i)) (grow J S x k A) from_here (growth_least J S x k A s h)
  where
    further : Grown J S x (along J A i) (grow J S x k (along J A i))
    further = growth_least J S x k (along J A i) (along_within J A S i s o.first_in o.second_in) (omega (arith, ones_along J A i o.half))

    from_here : Grown J S x A (grow J S x k (along J A i))
    from_here = record {
      has = λ r. omega (arith, further.has r, along_has J A i r);
      within = further.within;
      closed = further.closed;
      least = λ C c t. further.least C c (closed_along J S x A C i l o c t);
    }
