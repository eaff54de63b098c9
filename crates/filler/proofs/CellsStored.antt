-- The cells of a subquery, stored one after the other; and what is delivered at a site from rows that agree.
use Prim.Native.Nat.{ℕ, ◌+◌, ◌≤◌, ◌<◌}
use native.Mathlib.Omega.{arith}
use mathlib.Core.Path.{◌≡◌, subst, ◌∙◌}
use mathlib.Core.List.{List}
use lib.ListN.{length, get_or, set, length-set}
use lib.Seq.{get_or-set_same, get_or-set_other}
use lib.Count.{count_trailing_zeros}
use borrow.Author.Count.{below_more}
use borrow.Author.Tests.{eq-eqb, ne_eqb}
use Rattle.relations.specs.Code.{Listed}
use Rattle.board.specs.Board.{homes_at, sites_at}
use Rattle.filler.specs.Cells.{Stored}
use Rattle.filler.specs.Trials.{Lent, size_in, joined_in, bare_at, start_in}
use Rattle.sender.specs.Rows.{AtSites}
use Rattle.sender.specs.Delivering.{Carriable, DeliveredFrom}

stored_more : (old new : List ℕ) (at i v : ℕ) (g : ℕ → ℕ) (t : ℕ) → Stored old new at g t → i ≡ at + t → i < length old → v ≡ g t → Stored old (set new i v) at g (t + 1)
stored_more old new at i v g t s e room here =
    record {
      kept = record {
        long = length-set new i v ∙ s.kept.long;
        below = λ j h. get_or-set_other new i j v 0 (λ q. omega arith) ∙ s.kept.below j h;
        above = λ j h. get_or-set_other new i j v 0 (λ q. omega arith) ∙ s.kept.above j (omega arith);
      };
      each =
          below_more (λ u. get_or (set new i v) (at + u) 0 ≡ g u) t
          (λ u l. get_or-set_other new i (at + u) v 0 (λ q. omega arith) ∙ s.each u l)
          (rw (← e) (get_or-set_same new i v 0 (omega (arith, s.kept.long))) ∙ here);
    }

-- A pair of cells more.
pub stored_pair : (old new : List ℕ) (at i j v w : ℕ) (g : ℕ → ℕ) (t : ℕ) → Stored old new at g t → at + t + 2 ≤ length old → i ≡ at + t → j ≡ at + t + 1 →
    v ≡ g t → w ≡ g (t + 1) → Stored old (set (set new i v) j w) at g (t + 2)
stored_pair old new at i j v w g t s room e f here next =
    let two : t + 1 + 1 ≡ t + 2 = omega arith in
    subst (Stored old (set (set new i v) j w) at g) two
    (stored_more old (set new i v) at j w g (t + 1) (stored_more old new at i v g t s e (omega arith) here) (omega arith) (omega arith) next)

-- What is delivered from a row of which the sites' figures are others' too.
pub delivered_same : (b : List ℕ) (x y : ℕ) (f g : ℕ → ℕ) (new : List ℕ) → ((k : ℕ) → k < sites_at b → f k ≡ g k) → x ≡ y → DeliveredFrom b x f new → DeliveredFrom b y g new
delivered_same b x y f g new same e d =
    subst (λ (z : ℕ). DeliveredFrom b z g new) e
    (record {
      between = record {
        marked = d.between.marked;
        below = λ t h. omega (arith, d.between.below t h, same t h);
        greatest = λ D under uncut. d.between.greatest D (λ t h. omega (arith, under t h, same t h)) uncut;
      };
      uncut = d.uncut;
    })

-- What is stored from the row that a subquery starts from.
pub stored_start : (combine : ℕ → ℕ → ℕ) (l : Lent) (joins S at m : ℕ) (old new row : List ℕ) (x : ℕ) → AtSites (sites_at l.board) row (start_in combine l joins S) →
    x ≡ size_in l S → (r : List ℕ) × (DeliveredFrom l.board x (λ (k : ℕ). get_or row k 0) r × Stored old new at (λ (t : ℕ). get_or r t 0) m) →
    (r : List ℕ) × (DeliveredFrom l.board (size_in l S) (start_in combine l joins S) r × Stored old new at (λ (t : ℕ). get_or r t 0) m)
stored_start combine l joins S at m old new row x lanes size (r, (d, s)) =
    (r, (delivered_same l.board x (size_in l S) (λ (k : ℕ). get_or row k 0) (start_in combine l joins S) r lanes.each size d, s))

-- A subquery starts where its one relation stands, or where it is joined.
pub sized : (b : List ℕ) (x y : ℕ) → y ≡ x → Carriable b x → Carriable b y
sized b x y e p = rw e p

module _ (combine : ℕ → ℕ → ℕ) (l : Lent) (joins S : ℕ) (row : List ℕ) where
  start_same : (g : ℕ → ℕ) (s : ℕ) → Listed row g 8 s → ((k : ℕ) → g k ≡ start_in combine l joins S k) → AtSites s row (start_in combine l joins S)
  start_same g s r same = record { long = r.long; each = λ k h. r.each k h ∙ same k }

  pub start_bare : (homes s : ℕ) → joins ≡ 0 → homes ≡ homes_at l.board (count_trailing_zeros 64 S) → Listed row (bare_at homes) 8 8 → s ≤ 8 → AtSites s row (start_in combine l joins S)
  unfolding start_in
  start_bare homes s none is r few =
      start_same (bare_at homes) s (record { long = r.long; each = λ k h. r.each k (omega arith) }) (λ k. rw (eq-eqb joins 0 none, is))

  pub start_joined : (s : ℕ) → (joins ≡ 0 → ⊥) → AtSites s row (joined_in combine l joins S) → AtSites s row (start_in combine l joins S)
  unfolding start_in
  start_joined s some r = start_same (joined_in combine l joins S) s r (λ k. rw (ne_eqb joins 0 some))
