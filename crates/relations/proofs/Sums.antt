-- Sums of numbers over the places below m: to count joins by, and subqueries.
use Prim.Native.Nat.{ℕ, zero, suc, ◌+◌, ◌*◌, ◌≤◌, ◌<◌}
use mathlib.Core.Path.{◌≡◌, refl, sym, ap, ◌∙◌}
use mathlib.Core.Bool.{true, false}
use mathlib.Core.Logic.{◌⊎◌, inl, inr}
use native.Mathlib.Nat.{eq-or-lt_of_le, le_of_suc-le-suc}
use native.Mathlib.Omega.{arith}
use borrow.Author.Tests.{eq-eqb, ne_eqb}
use lib.Dec.{eqb}

unfoldable pub sum : ℕ → (ℕ → ℕ) → ℕ
sum zero f = 0
sum (suc m) f = sum m f + f m

pub sum_le : (m : ℕ) (f g : ℕ → ℕ) → ((i : ℕ) → i < m → f i ≤ g i) → sum m f ≤ sum m g
unfolding sum
sum_le zero f g h = omega arith
sum_le (suc m) f g h = omega (arith, sum_le m f g (λ i l. h i (omega arith)), h m (omega arith))

-- Less at one place is less in all.
pub sum_lt : (m : ℕ) (f g : ℕ → ℕ) → ((i : ℕ) → i < m → f i ≤ g i) → (e : ℕ) → e < m → f e < g e → sum m f < sum m g
unfolding sum
sum_lt zero f g h e l d = omega arith
sum_lt (suc m) f g h e l d = go (eq-or-lt_of_le (le_of_suc-le-suc l)) (λ q. sum_lt m f g (λ i k. h i (omega arith)) e q d)
  where
    go : (e ≡ m) ⊎ (e < m) → (e < m → sum m f < sum m g) → sum m f + f m < sum m g + g m
    go (inl q) rest = omega (arith, sum_le m f g (λ i k. h i (omega arith)), mathlib.Core.Path.subst (λ (x : ℕ). f x < g x) q d)
    go (inr q) rest = omega (arith, rest q, h m (omega arith))

pub sum_add : (m : ℕ) (f g h : ℕ → ℕ) → ((i : ℕ) → i < m → f i ≡ g i + h i) → sum m f ≡ sum m g + sum m h
unfolding sum
sum_add zero f g h e = refl
sum_add (suc m) f g h e = omega (arith, sum_add m f g h (λ i l. e i (omega arith)), e m (omega arith))

pub sum_ones : (m : ℕ) → sum m (λ i. 1) ≡ m
unfolding sum
sum_ones zero = refl
sum_ones (suc m) = omega (arith, sum_ones m)

pub sum_none : (m : ℕ) (f : ℕ → ℕ) → ((i : ℕ) → f i ≡ 0) → sum m f ≡ 0
unfolding sum
sum_none zero f none = refl
sum_none (suc m) f none = omega (arith, sum_none m f none, none m)

-- Even places and odd places.
pub sum_pairs : (m : ℕ) (f : ℕ → ℕ) → sum (2 * m) f ≡ sum m (λ i. f (2 * i)) + sum m (λ i. f (2 * i + 1))
unfolding sum
sum_pairs zero f = refl
sum_pairs (suc m) f =
    let twice : 2 * suc m ≡ suc (suc (2 * m)) = omega arith in
    let odd : suc (2 * m) ≡ 2 * m + 1 = omega arith in
    ap (λ (x : ℕ). sum x f) twice ∙ omega (arith, sum_pairs m f, ap f odd)

-- The first place, and the others.
pub sum_front : (m : ℕ) (f : ℕ → ℕ) → sum (suc m) f ≡ f 0 + sum m (λ i. f (suc i))
unfolding sum
sum_front zero f = omega arith
sum_front (suc m) f = omega (arith, sum_front m f)

pub sum_same : (m : ℕ) (f g : ℕ → ℕ) → ((i : ℕ) → i < m → f i ≡ g i) → sum m f ≡ sum m g
unfolding sum
sum_same zero f g h = refl
sum_same (suc m) f g h = omega (arith, sum_same m f g (λ i l. h i (omega arith)), h m (omega arith))

-- f with 0 at place k. The sum is less by what stood there.
unfoldable pub besides : ℕ → (ℕ → ℕ) → ℕ → ℕ
besides k f i = elim (eqb i k) [ true ↦ 0 | false ↦ f i ]

module _ (k : ℕ) (f : ℕ → ℕ) (i : ℕ) where
  besides_at : i ≡ k → besides k f i ≡ 0
  unfolding besides
  besides_at e = rw (besides, eq-eqb i k e)

  pub besides_other : (i ≡ k → ⊥) → besides k f i ≡ f i
  unfolding besides
  besides_other d = rw (besides, ne_eqb i k d)

  pub besides_some : 0 < besides k f i → i ≡ k → ⊥
  besides_some p e = omega (arith, besides_at e)

pub sum_besides : (m k : ℕ) (f : ℕ → ℕ) → k < m → sum m f ≡ sum m (besides k f) + f k
unfolding sum
sum_besides zero k f l = absurd (omega arith)
sum_besides (suc m) k f l = go (eq-or-lt_of_le (le_of_suc-le-suc l)) (sum_besides m k f)
  where
    go : (k ≡ m) ⊎ (k < m) → (k < m → sum m f ≡ sum m (besides k f) + f k) → sum m f + f m ≡ sum m (besides k f) + besides k f m + f k
    go (inl e) below =
        omega (arith, sum_same m (besides k f) f (λ i h. besides_other k f i (λ q. omega arith)), besides_at k f m (sym e), ap f e)
    go (inr h) below = omega (arith, below h, besides_other k f m (λ q. omega arith))

-- Each place of f, where it has something, goes to a place of g that has as much, and no two go to one.
pub record Into (a b : ℕ) (f g to : ℕ → ℕ) : Type 0 where
  pub there : (i : ℕ) → i < a → 0 < f i → to i < b
  pub enough : (i : ℕ) → i < a → 0 < f i → f i ≤ g (to i)
  pub apart : (i j : ℕ) → i < a → j < a → 0 < f i → 0 < f j → to i ≡ to j → i ≡ j

-- Then f comes to no more than g: what the last place of f goes to is left out of g for the others.
pub sum_into : (a b : ℕ) (f g to : ℕ → ℕ) → Into a b f g to → sum a f ≤ sum b g
unfolding sum
sum_into zero b f g to h = omega arith
sum_into (suc a) b f g to h = go (f a) refl (sum_into a b f g to fewer) (λ p. sum_into a b f (besides (to a) g) to (others p))
  where
    fewer : Into a b f g to
    fewer = record {
      there = λ i l. h.there i (omega arith);
      enough = λ i l. h.enough i (omega arith);
      apart = λ i j l k. h.apart i j (omega arith) (omega arith);
    }

    others : 0 < f a → Into a b f (besides (to a) g) to
    others last = record {
      there = fewer.there;
      enough = λ i l p.
          omega (arith, fewer.enough i l p, besides_other (to a) g (to i) (λ e. omega (arith, l, h.apart i a (omega arith) (omega arith) p last e)));
      apart = fewer.apart;
    }

    go : (x : ℕ) → f a ≡ x → sum a f ≤ sum b g → (0 < f a → sum a f ≤ sum b (besides (to a) g)) → sum a f + f a ≤ sum b g
    go zero e same rest = omega arith
    go (suc x) e same rest =
        let last : 0 < f a = omega arith in
        omega (arith, rest last, sum_besides b (to a) g (h.there a (omega arith) last), h.enough a (omega arith) last)
