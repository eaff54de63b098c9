-- A site has sent over its lines: each figure is the lesser of what stood there and what came. So the row is nowhere higher, and nowhere below what no line
-- undercuts, as long as the sender's figure is not.
use Prim.Native.Nat.{ℕ, ◌+◌, ◌≤◌, ◌<◌}
use native.Mathlib.Nat.{le_refl}
use native.Mathlib.Omega.{arith}
use mathlib.Core.Path.{◌≡◌, refl, ◌∙◌}
use mathlib.Core.Bool.{Bool, true, false}
use mathlib.Core.Logic.{◌⊎◌, inl, inr}
use mathlib.Core.List.{List}
use lib.Dec.{ltb}
use lib.ListN.{get_or}
use borrow.Author.Tests.{ltb-true, ltb-false}
use Rattle.query.specs.Choice.{pick}
use Rattle.board.specs.Figures.{lesser, Marked}
use Rattle.board.specs.Board.{sites_at}
use Rattle.sender.specs.Rows.{TriedAt}
use Rattle.sender.specs.Delivering.{line_in, Uncut, Between}

-- The lesser of two figures is one of them, and no more than either.
lesser_is : (new kept : ℕ) → ((lesser new kept ≡ new) × (new ≤ kept)) ⊎ ((lesser new kept ≡ kept) × (kept ≤ new))
unfolding lesser
lesser_is new kept = go (ltb new kept) refl
  where
    go : (t : Bool) → ltb new kept ≡ t → ((pick t new kept ≡ new) × (new ≤ kept)) ⊎ ((pick t new kept ≡ kept) × (kept ≤ new))
    go true e = inl (refl, omega (arith, ltb-true new kept e))
    go false e = inr (refl, omega (arith, ltb-false new kept e))

-- Site m, which has cost x, sends.
module _ (b : List ℕ) (size : ℕ) (best new : List ℕ) (x m : ℕ) (few : sites_at b ≤ 8) (tried : TriedAt 8 best new (λ (t : ℕ). x + line_in b size m t)) where
  pub sent_is : (t : ℕ) → t < sites_at b →
      ((get_or new t 0 ≡ x + line_in b size m t) × (x + line_in b size m t ≤ get_or best t 0)) ⊎ ((get_or new t 0 ≡ get_or best t 0) × (get_or best t 0 ≤ x + line_in b size m t))
  sent_is t h =
      elim (lesser_is (x + line_in b size m t) (get_or best t 0)) [ inl (e, l) ↦ inl (tried.each t (omega arith) ∙ e, l) | inr (e, l) ↦ inr (tried.each t (omega arith) ∙ e, l) ]

  pub sent_most : (t : ℕ) → t < sites_at b → (get_or new t 0 ≤ get_or best t 0) × (get_or new t 0 ≤ x + line_in b size m t)
  sent_most t h = elim (sent_is t h) [ inl (e, l) ↦ (omega arith, omega arith) | inr (e, l) ↦ (omega arith, omega arith) ]

  pub sent_least : (y t : ℕ) → t < sites_at b → y ≤ get_or best t 0 → y ≤ x + line_in b size m t → y ≤ get_or new t 0
  sent_least y t h one other = elim (sent_is t h) [ inl (e, l) ↦ omega arith | inr (e, l) ↦ omega arith ]

  pub between_more : (spent : ℕ → ℕ) → m < sites_at b → Marked new →
      ((D : ℕ → ℕ) → ((t : ℕ) → t < sites_at b → D t ≤ spent t) → Uncut b size D → D m ≤ x) → Between b size spent best → Between b size spent new
  between_more spent here marked sender s =
      record {
        marked = marked;
        below = λ t h. omega (arith, (sent_most t h).0, s.below t h);
        greatest = λ D under uncut t h. sent_least (D t) t h (s.greatest D under uncut t h) (omega (arith, uncut m t here h, sender D under uncut));
      }

-- Before any has sent.
pub between_none : (b : List ℕ) (size : ℕ) (row : List ℕ) → Marked row → Between b size (λ (k : ℕ). get_or row k 0) row
between_none b size row marked = record { marked = marked; below = λ t h. le_refl _; greatest = λ D under uncut. under }
