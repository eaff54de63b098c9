-- What a trial comes to, and that their sums keep far below a word's limit.
use Prim.Native.Nat.{ℕ, ◌+◌, ◌*◌, ◌≤◌, zero-le}
use native.Mathlib.Nat.{le_refl}
use native.Mathlib.Omega.{arith}
use mathlib.Core.Path.{◌≡◌, sym, ◌∙◌}
use mathlib.Core.Bool.{Bool, true, false}
use lib.Dec.{eqb}
use lib.ListN.{get_or}
use borrow.Author.Tests.{eq-eqb, ne_eqb}
use Rattle.relations.specs.Sets.{bit}
use Rattle.query.specs.Choice.{pick}
use Rattle.board.specs.Figures.{none_mark}
use Rattle.filler.specs.Cells.{place_in}
use Rattle.filler.specs.Trials.{Lent, price_in, trial_of, Triable, bare_at}

-- A trial: two cells and a price.
module _ (l : Lent) (P R i k a b : ℕ) (ea : a ≡ place_in l.places P k) (eb : b ≡ place_in l.places R k) where
  pub both_most : Triable l P R i k → get_or l.work a 0 + get_or l.work b 0 ≤ 2 * none_mark
  both_most t = rw (ea, eb) (omega (arith, t.first_cell, t.second_cell))

  pub trial_is : (both price : ℕ) → both ≡ get_or l.work a 0 + get_or l.work b 0 → price ≡ price_in l.board l.sizes P R i k → both + price ≡ trial_of ◌+◌ l P R i k
  unfolding trial_of
  trial_is both price e f = rw (e, f, ea, eb)

-- The row of one relation.
pub stands_is : (homes k b : ℕ) → b ≡ bit homes k → b ≡ 1 → 0 ≡ bare_at homes k
unfolding bare_at
stands_is homes k b is one = rw (eq-eqb (bit homes k) 1 (sym is ∙ one))

pub stands_not : (homes k b : ℕ) → b ≡ bit homes k → (b ≡ 1 → ⊥) → none_mark ≡ bare_at homes k
unfolding bare_at
stands_not homes k b is other = rw (ne_eqb (bit homes k) 1 (λ e. other (is ∙ e)))

pub bare_most : (homes k : ℕ) → bare_at homes k ≤ none_mark
unfolding bare_at
bare_most homes k = go (eqb (bit homes k) 1)
  where
    go : (t : Bool) → pick t 0 none_mark ≤ none_mark
    go true = zero-le
    go false = le_refl _
