-- Laws of the figures that the code keeps: the lesser of two, and the least of many with its lowest place.
use Prim.Native.Nat.{ℕ, zero, suc, ◌+◌, ◌≤◌, ◌<◌}
use native.Mathlib.Nat.{le_refl}
use native.Mathlib.Numerals.{add-one}
use native.Mathlib.Decide.{dec_lt}
use native.Mathlib.Omega.{arith}
use mathlib.Core.Path.{◌≡◌, refl, sym, ap, ◌∙◌}
use mathlib.Core.Bool.{Bool, true, false}
use lib.Dec.{ltb}
use borrow.Author.Tests.{lt-ltb, le-ltb, ltb-true}
use Rattle.query.specs.Choice.{pick}
use Rattle.board.specs.declared.figures.Choice.{Choice}
use Rattle.board.specs.Figures.{none_mark, lesser, least_of, place_of, ChoiceOf, better_of}

-- The lesser of two figures, and the better of two choices.
pub lesser_new : (new kept : ℕ) → new < kept → new ≡ lesser new kept
unfolding lesser
lesser_new new kept h = rw (lt-ltb new kept h)

pub lesser_kept : (new kept : ℕ) → kept ≤ new → kept ≡ lesser new kept
unfolding lesser
lesser_kept new kept h = rw (le-ltb new kept h)

pub better_new : (new i : ℕ) (kept : Choice) → new < kept.figure → record { figure = new; at = i } ≡ better_of new i kept
unfolding better_of
better_new new i kept h = rw (lt-ltb new kept.figure h)

pub better_kept : (new i : ℕ) (kept : Choice) → kept.figure ≤ new → kept ≡ better_of new i kept
unfolding better_of
better_kept new i kept h = rw (le-ltb new kept.figure h)

pub lesser_most : (new kept n : ℕ) → kept ≤ n → lesser new kept ≤ n
unfolding lesser
lesser_most new kept n h = go (ltb new kept) refl
  where
    go : (t : Bool) → ltb new kept ≡ t → pick t new kept ≤ n
    go true e = omega (arith, ltb-true new kept e)
    go false e = h

-- No least figure is above that of none, so none itself never replaces it.
pub least_most : (g : ℕ → ℕ) (m : ℕ) → least_of g m ≤ none_mark
unfolding least_of
least_most g zero = le_refl _
least_most g (suc m) = lesser_most (g m) (least_of g m) none_mark (least_most g m)

pub least_skip : (g : ℕ → ℕ) (p n : ℕ) → p ≤ n → ((i : ℕ) → p ≤ i → i < n → g i ≡ none_mark) → least_of g p ≡ least_of g n
unfolding least_of
least_skip g zero zero l h = refl
least_skip g (suc p) zero l h = absurd (omega arith)
least_skip g p (suc n) l h = elim (dec_lt n p) [
  | yes k ↦ (let e : p ≡ suc n = omega arith in rw e)
  | no k ↦ least_skip g p n (omega arith) (λ i low below. h i low (omega arith))
      ∙ lesser_kept (g n) (least_of g n) (omega (arith, h n (omega arith) (le_refl _), least_most g n))
]

-- The least before any figure, and with one figure more.
pub choice_none : (g : ℕ → ℕ) → ChoiceOf g 0 (record { figure = none_mark; at = 0 })
unfolding least_of place_of
choice_none g = record { figure_is = refl; at_is = refl }

pub choice_more : (g : ℕ → ℕ) (m new : ℕ) (kept made : Choice) → ChoiceOf g m kept → new ≡ g m → made ≡ better_of new m kept → ChoiceOf g (m + 1) made
unfolding least_of place_of lesser better_of
choice_more g m new kept made c e b = rw (add-one m, b, e) (go (ltb (g m) kept.figure) refl)
  where
    go : (t : Bool) → ltb (g m) kept.figure ≡ t → ChoiceOf g (suc m) (pick t (record { figure = g m; at = m }) kept)
    go true h = let u : ltb (g m) (least_of g m) ≡ true = sym (ap (ltb (g m)) c.figure_is) ∙ h in record { figure_is = rw u; at_is = rw u }
    go false h =
        let u : ltb (g m) (least_of g m) ≡ false = sym (ap (ltb (g m)) c.figure_is) ∙ h in
        record { figure_is = rw u c.figure_is; at_is = rw u c.at_is }

-- A figure that is none changes nothing.
pub choice_same : (g : ℕ → ℕ) (m : ℕ) (kept : Choice) → ChoiceOf g m kept → g m ≡ none_mark → ChoiceOf g (m + 1) kept
unfolding least_of place_of lesser
choice_same g m kept c e =
    let u : ltb (g m) (least_of g m) ≡ false = le-ltb (g m) (least_of g m) (omega (arith, least_most g m)) in
    rw (add-one m) (record { figure_is = rw u c.figure_is; at_is = rw u c.at_is })

-- Figures that agree below m have the same least one at the same place.
pub least_same : (f g : ℕ → ℕ) (m : ℕ) → ((k : ℕ) → k < m → f k ≡ g k) → least_of f m ≡ least_of g m
unfolding least_of
least_same f g zero h = refl
least_same f g (suc m) h = rw (h m (le_refl _), least_same f g m (λ k l. h k (omega arith)))

pub place_same : (f g : ℕ → ℕ) (m : ℕ) → ((k : ℕ) → k < m → f k ≡ g k) → place_of f m ≡ place_of g m
unfolding place_of
place_same f g zero h = refl
place_same f g (suc m) h =
    rw (h m (le_refl _), least_same f g m (λ k l. h k (omega arith)), place_same f g m (λ k l. h k (omega arith)))
