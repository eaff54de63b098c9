-- Where the least of some figures stands: at its place, and nowhere before it; so the first place that has it is its place.
use Prim.Native.Nat.{ℕ, zero, suc, ◌≤◌, ◌<◌}
use native.Mathlib.Nat.{le_refl, le_of_suc-le-suc, eq-or-lt_of_le}
use native.Mathlib.Decide.{dec_lt}
use native.Mathlib.Omega.{arith}
use mathlib.Core.Path.{◌≡◌, refl}
use mathlib.Core.Bool.{Bool, true, false}
use mathlib.Core.Logic.{◌⊎◌, inl, inr}
use lib.Dec.{ltb}
use borrow.Author.Tests.{ltb-true, ltb-false}
use Rattle.query.specs.Choice.{pick}
use Rattle.board.specs.Figures.{none_mark, lesser, least_of, place_of}

-- A place is among those that there are.
pub place_below : (g : ℕ → ℕ) (m : ℕ) → 0 < m → place_of g m < m
unfolding place_of
place_below g zero l = absurd (omega arith)
place_below g (suc zero) l = go (ltb (g 0) (least_of g 0))
  where
    go : (t : Bool) → pick t 0 (place_of g 0) < 1
    go true = omega arith
    go false = omega arith
place_below g (suc (suc m)) l = go (ltb (g (suc m)) (least_of g (suc m))) (place_below g (suc m) (omega arith))
  where
    go : (t : Bool) → place_of g (suc m) < suc m → pick t (suc m) (place_of g (suc m)) < suc (suc m)
    go true h = le_refl _
    go false h = omega arith

-- The least figure stands at its place, is nowhere above a figure, and stands nowhere before its place.
pub least_at : (g : ℕ → ℕ) (m : ℕ) → least_of g m < none_mark → (place_of g m < m) × (g (place_of g m) ≡ least_of g m)
unfolding least_of place_of lesser
least_at g zero h = absurd (omega arith)
least_at g (suc m) h = go (ltb (g m) (least_of g m)) h (least_at g m)
  where
    go : (t : Bool) → pick t (g m) (least_of g m) < none_mark → (least_of g m < none_mark → (place_of g m < m) × (g (place_of g m) ≡ least_of g m)) →
        (pick t m (place_of g m) < suc m) × (g (pick t m (place_of g m)) ≡ pick t (g m) (least_of g m))
    go true l before = (le_refl _, refl)
    go false l before = (omega (arith, (before l).0), (before l).1)

pub least_below : (g : ℕ → ℕ) (m i : ℕ) → i < m → least_of g m ≤ g i
unfolding least_of lesser
least_below g zero i h = absurd (omega arith)
least_below g (suc m) i h = go (ltb (g m) (least_of g m)) refl (eq-or-lt_of_le (le_of_suc-le-suc h)) (least_below g m i)
  where
    go : (t : Bool) → ltb (g m) (least_of g m) ≡ t → (i ≡ m) ⊎ (i < m) → (i < m → least_of g m ≤ g i) → pick t (g m) (least_of g m) ≤ g i
    go true e (inl same) before = rw same (le_refl _)
    go true e (inr low) before = omega (arith, ltb-true (g m) (least_of g m) e, before low)
    go false e (inl same) before = rw same (ltb-false (g m) (least_of g m) e)
    go false e (inr low) before = before low

place_lowest : (g : ℕ → ℕ) (m i : ℕ) → i < place_of g m → least_of g m < g i
unfolding least_of place_of lesser
place_lowest g zero i h = absurd (omega arith)
place_lowest g (suc m) i h = go (ltb (g m) (least_of g m)) refl h (place_lowest g m i)
  where
    go : (t : Bool) → ltb (g m) (least_of g m) ≡ t → i < pick t m (place_of g m) → (i < place_of g m → least_of g m < g i) → pick t (g m) (least_of g m) < g i
    go true e low before = omega (arith, ltb-true (g m) (least_of g m) e, least_below g m i low)
    go false e low before = before low

pub place_first : (g : ℕ → ℕ) (m k : ℕ) → k < m → g k ≡ least_of g m → g k < none_mark → ((i : ℕ) → i < k → least_of g m < g i) → place_of g m ≡ k
place_first g m k low is some before = go (dec_lt (place_of g m) k) (dec_lt k (place_of g m))
  where
    found : g (place_of g m) ≡ least_of g m
    found = (least_at g m (omega arith)).1

    go : Dec (place_of g m < k) → Dec (k < place_of g m) → place_of g m ≡ k
    go (yes l) d = absurd (omega (arith, before (place_of g m) l, found))
    go (no l) (yes d) = absurd (omega (arith, place_lowest g m k d))
    go (no l) (no d) = omega arith
