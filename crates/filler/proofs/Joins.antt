-- The walk over the joins of a set, which are given as bits, from the lowest on: every bit that is passed over is 0, and its figure is none.
use Prim.Native.Nat.{ℕ, ◌+◌, ◌-◌, ◌^◌, ◌≤◌, ◌<◌, zero-le}
use native.Mathlib.Omega.{arith}
use mathlib.Core.Path.{◌≡◌, refl, sym, ap, subst, ◌∙◌}
use mathlib.Core.List.{List}
use lib.Bits.{bit_and}
use lib.ListN.{replicate}
use borrow.Author.Tests.{eq-eqb, ne_eqb}
use Rattle.relations.specs.declared.splitting.Parts.{Parts}
use Rattle.relations.specs.Code.{most_sets}
use Rattle.relations.specs.Sets.{bit, lowest}
use Rattle.relations.specs.Splits.{parts_by}
use Rattle.relations.proofs.Bits.{bit_range}
use Rattle.relations.proofs.Counts.{lowest_off}
use Rattle.relations.proofs.Walks.{From, from_first, none_from, lowest_left, lowest_past, lowest_whole, none_between, one_less, from_next}
use Rattle.board.specs.Figures.{none_mark, least_of, Marked}
use Rattle.board.specs.Board.{side_at, spared_row, sites_at}
use Rattle.filler.specs.Cells.{reach}
use Rattle.filler.specs.Trials.{Lent, trial_of, Triable, parts_at, trial_by, TriableBy, join_trial, Joinable, joined_in}
use Rattle.sender.specs.Rows.{AtSites, TriedAt}
use Rattle.filler.proofs.Places.{reach_least}
use Rattle.sender.proofs.Rows.{none_marked}
use Rattle.filler.proofs.Turns.{least_none, least_more, least_past}

-- Its figure where a join is among the bits, and where it is not.
module _ (combine : ℕ → ℕ → ℕ) (l : Lent) (joins S k e : ℕ) where
  pub trial_in : bit joins e ≡ 1 → trial_by combine l (parts_at l S e) e k ≡ join_trial combine l joins S k e
  unfolding join_trial
  trial_in h = rw (eq-eqb (bit joins e) 1 h)

  pub trial_out : bit joins e ≡ 0 → join_trial combine l joins S k e ≡ none_mark
  unfolding join_trial
  trial_out h = rw (ne_eqb (bit joins e) 1 (λ one. omega arith))

-- The bits of `left` are those of `joins` from `at` on, and the row has the least figure of the joins below.
pub record JoinedTo (combine : ℕ → ℕ → ℕ) (l : Lent) (joins S : ℕ) (row : List ℕ) (left : ℕ) : Type 0 where
  pub at : ℕ
  pub at_most : at ≤ 8
  pub from : From joins left at
  pub few : left < 256
  pub lanes : AtSites (sites_at l.board) row (λ (k : ℕ). least_of (join_trial combine l joins S k) at)
  pub marked : Marked row

module _ (combine : ℕ → ℕ → ℕ) (l : Lent) (joins S : ℕ) where
  -- At first every join is left.
  pub joined_none : (left : ℕ) → left ≡ joins → Joinable l joins S → JoinedTo combine l joins S (replicate 8 none_mark) left
  joined_none left every asks =
      record {
        at = 0;
        at_most = zero-le;
        from = from_first joins left every;
        few = omega (arith, asks.few);
        lanes = least_none (join_trial combine l joins S) (sites_at l.board) _ 0 asks.few_sites refl refl;
        marked = none_marked;
      }

  module _ (row : List ℕ) (left : ℕ) (j : JoinedTo combine l joins S row left) where
    -- Where no bit is left, every join was tried.
    pub joined_done : left ≡ 0 → AtSites (sites_at l.board) row (joined_in combine l joins S) × Marked row
    joined_done none = (
      least_past (join_trial combine l joins S) (sites_at l.board) j.at 8 row j.lanes j.at_most
          (λ k i low h. trial_out combine l joins S k i (none_from joins left j.at j.from none i low)),
      j.marked,
    )

    -- The lowest bit that is left, and the word with that bit alone.
    module _ (some : left ≡ 0 → ⊥) where
      fits : left < 2 ^ 64
      fits = omega (arith, j.few)

      pub next_low : lowest 64 left < 8
      next_low = bit_range left 8 (lowest 64 left) j.few (lowest_left joins left j.at j.from some fits)

      next_past : j.at ≤ lowest 64 left
      next_past = lowest_past joins left j.at j.from some fits

      next_joins : bit joins (lowest 64 left) ≡ 1
      next_joins = lowest_whole joins left j.at j.from some fits

      -- What is left behind it.
      next_off : (rest : ℕ) → rest ≡ bit_and left (left - 1) → rest ≡ left - 2 ^ lowest 64 left
      next_off rest e = e ∙ lowest_off 64 left (omega arith) fits

      pub next_less : (rest : ℕ) → rest ≡ bit_and left (left - 1) → rest < left
      next_less rest e = omega (arith, next_off rest e, one_less joins left j.at j.from some fits (2 ^ lowest 64 left) refl)

      -- What trying its join asks, and the row with the trials of it, by its parts and the row of the board with what is spared of them.
      next_triable : Joinable l joins S → (p : Parts) → p ≡ parts_by S (side_at l.board (lowest 64 left)) → (k : ℕ) → k < reach (sites_at l.board) →
          TriableBy l p (lowest 64 left) k
      next_triable a p is k low = subst (λ (x : Parts). TriableBy l x (lowest 64 left) k) (sym is) (a.each (lowest 64 left) k next_low low next_joins)

      pub next_parts : Joinable l joins S → (p : Parts) → p ≡ parts_by S (side_at l.board (lowest 64 left)) →
          ((p.first < most_sets) × (p.second < most_sets)) × (lowest 64 left < 8)
      next_parts a p is =
          let within = (next_triable a p is 0 (omega (arith, a.some_site, reach_least (sites_at l.board) a.few_sites))).priced.set_in in
          ((omega arith, omega arith), next_low)

      pub next_asks : Joinable l joins S → (p : Parts) (i : ℕ) → p ≡ parts_by S (side_at l.board (lowest 64 left)) → i ≡ spared_row p.first p.second (lowest 64 left) →
          (k : ℕ) → k < reach (sites_at l.board) → Triable l p.first p.second i k
      next_asks a p i is row k low = rw row (next_triable a p is k low)

      next_lanes : AtSites (sites_at l.board) row (λ (k : ℕ). least_of (join_trial combine l joins S k) (lowest 64 left))
      next_lanes =
          least_past (join_trial combine l joins S) (sites_at l.board) j.at (lowest 64 left) row j.lanes next_past
          (λ k i low h. trial_out combine l joins S k i (none_between joins left j.at j.from some fits i low h))

      pub joined_more : (p : Parts) (i rest : ℕ) (new : List ℕ) → p ≡ parts_by S (side_at l.board (lowest 64 left)) →
          i ≡ spared_row p.first p.second (lowest 64 left) → rest ≡ bit_and left (left - 1) →
          TriedAt (sites_at l.board) row new (trial_of combine l p.first p.second i) × Marked new → JoinedTo combine l joins S new rest
      joined_more p i rest new is spared off (t, m) = record {
        at = lowest 64 left + 1;
        at_most = omega (arith, next_low);
        from = subst (λ (x : ℕ). From joins x (lowest 64 left + 1)) (sym (next_off rest off)) (from_next joins left j.at j.from some fits (2 ^ lowest 64 left) refl);
        few = omega (arith, j.few, next_less rest off);
        lanes = least_more (join_trial combine l joins S) (sites_at l.board) _ (lowest 64 left) row new next_lanes t
            (λ k h. ap (λ (x : ℕ). trial_of combine l p.first p.second x k) spared ∙ ap (λ (x : Parts). trial_by combine l x (lowest 64 left) k) is ∙ trial_in combine l joins S k (lowest 64 left) next_joins);
        marked = m;
      }
