-- A row of least figures takes one figure more at each lane.
use Prim.Native.Nat.{ℕ, ◌+◌, ◌≤◌, ◌<◌}
use native.Mathlib.Nat.{le_antisymm}
use native.Mathlib.Numerals.{add-one}
use native.Mathlib.Omega.{arith}
use mathlib.Core.Path.{◌≡◌, refl, ◌∙◌}
use mathlib.Core.List.{List}
use lib.ListN.{replicate, get_or-replicate}
use Rattle.relations.specs.Code.{Listed}
use Rattle.board.specs.Figures.{none_mark, least_of}
use Rattle.sender.specs.Rows.{TriedAt}
use Rattle.board.proofs.LeastFigures.{least_skip}

-- The least figures in the first w lanes of a row, before any figure, with one figure more, and past figures that are none.
module _ (g : ℕ → ℕ → ℕ) (w : ℕ) where
  pub least_none : (row : List ℕ) (m : ℕ) → w ≤ 8 → row ≡ replicate 8 none_mark → m ≡ 0 → Listed row (λ (k : ℕ). least_of (g k) m) 8 w
  unfolding least_of
  least_none row m few e first = rw (e, first) (record { long = refl; each = λ k h. get_or-replicate 8 k none_mark 0 (omega arith) })

  pub least_more : (h : ℕ → ℕ) (e : ℕ) (row new : List ℕ) → Listed row (λ (k : ℕ). least_of (g k) e) 8 w → TriedAt w row new h → ((k : ℕ) → k < w → h k ≡ g k e) →
      Listed new (λ (k : ℕ). least_of (g k) (e + 1)) 8 w
  unfolding least_of
  least_more h e row new r t is = rw (add-one e) (record { long = t.long; each = λ k low. t.each k low ∙ rw (is k low, r.each k low) })

  pub least_past : (p e : ℕ) (row : List ℕ) → Listed row (λ (k : ℕ). least_of (g k) p) 8 w → p ≤ e → ((k i : ℕ) → p ≤ i → i < e → g k i ≡ none_mark) →
      Listed row (λ (k : ℕ). least_of (g k) e) 8 w
  least_past p e row r l none = record { long = r.long; each = λ k low. r.each k low ∙ least_skip (g k) p e l (none k) }

  pub least_done : (m s : ℕ) (row : List ℕ) → Listed row (λ (k : ℕ). least_of (g k) m) 8 w → m ≤ s → s ≤ m → Listed row (λ (k : ℕ). least_of (g k) s) 8 w
  least_done m s row r l k = rw (le_antisymm l k) at r
