-- The trials of a subquery's joins show what the definitions charge for them: so the least of them at a site is Joined's figure there, and the lowest
-- join of it is the best join.
use Prim.Native.Nat.{ℕ, ◌+◌, ◌≤◌, ◌<◌}
use native.Mathlib.Nat.{le_refl}
use native.Mathlib.Omega.{arith}
use mathlib.Core.Path.{◌≡◌, refl, sym, ap, ◌∙◌}
use mathlib.Core.Bool.{Bool, true, false}
use lib.Dec.{eqb}
use borrow.Author.Tests.{eqb-true}
use Rattle.relations.specs.Sets.{bit}
use Rattle.relations.specs.Growth.{inside}
use Rattle.relations.specs.Trees.{Subquery, join_bits}
use Rattle.relations.specs.Code.{or_none}
use Rattle.relations.proofs.JoinBits.{bits_inside, join_of_bit}
use Rattle.query.specs.declared.Query.{Query}
use Rattle.query.specs.Choice.{pick}
use Rattle.query.specs.Cost.{Cost, none, some, both, plus}
use Rattle.query.specs.Query.{relations_of, sites_of, may_join}
use Rattle.query.specs.Prices.{join_price, dearest_join, indexed}
use Rattle.query.proofs.Prices.{join_most}
use Rattle.rules.specs.Combine.{Combines}
use Rattle.rules.proofs.Combinations.{plus_combines}
use Rattle.routes.specs.Least.{best, least}
use Rattle.tables.specs.Tables.{first_part, other_part, by_join, joined_by, delivered, joined}
use Rattle.tables.specs.Theorems.{most_cost}
use Rattle.board.specs.Figures.{none_mark, mark, least_of, place_of}
use Rattle.board.specs.Board.{spared_row}
use Rattle.filler.specs.Trials.{Lent, trial_of, parts_at, trial_by, join_trial, joined_in}
use Rattle.filler.specs.Filling.{LaidOut, Filled}
use Rattle.filler.proofs.Marks.{Shows, Kept, shows_mark, shows_both, kept_all, kept_rest, none_kept}
use Rattle.filler.proofs.Boards.{price_is, price_none}
use Rattle.filler.proofs.Parts.{part_of, delivered_up_to, Parts, parts_of}

-- What no trial's number is above.
abbrev most_trial : ℕ
most_trial = most_cost + most_cost + dearest_join

module _ (combine : ℕ → ℕ → ℕ) (C : Combines combine) (q : Query) (l : Lent) (laid : LaidOut q l) (S : ℕ) (s : Subquery q.joins (relations_of q) S)
    (filled : Filled combine q l.places l.work S) where
  abbrev joins : ℕ
  joins = join_bits q.joins S q.joins.count

  abbrev D : ℕ → ℕ → Cost
  D = delivered combine q

  abbrev PartsHere : ℕ → ℕ → ℕ → ℕ → Type 0
  PartsHere P R e k = Parts combine C q l laid S s filled P R e k

  cell_shows : (P k : ℕ) → Subquery q.joins (relations_of q) P → Shows most_cost (mark (D P k)) (D P k)
  cell_shows P k p = shows_mark most_cost (D P k) (delivered_up_to combine C q l laid S s filled P k p)

  -- A trial where the site may join, and where it may not.
  trial_shows : (P R e k : ℕ) → PartsHere P R e k → may_join q k ≡ true →
      Shows most_trial (trial_of combine l P R (spared_row P R e) k) (plus (both combine (D P k) (D R k)) (some (join_price q k (indexed q P k) P (indexed q R k) R)))
  unfolding trial_of
  trial_shows P R e k p may =
      let price : ℕ = join_price q k (indexed q P k) P (indexed q R k) R in
      rw (price_is q l laid P R e k p.ended (omega (arith, p.site_in, laid.valid.sites_most)) may, p.first_cell, p.second_cell)
      (shows_both ◌+◌ plus_combines (most_cost + most_cost) dearest_join (combine (mark (D P k)) (mark (D R k))) price (both combine (D P k) (D R k)) (some price)
      (shows_both combine C most_cost most_cost (mark (D P k)) (mark (D R k)) (D P k) (D R k) (cell_shows P k p.first_part) (cell_shows R k p.second_part))
      (refl, join_most q laid.valid k (indexed q P k) P (indexed q R k) R))

  trial_none : (P R e k : ℕ) → PartsHere P R e k → may_join q k ≡ false → none_mark ≤ trial_of combine l P R (spared_row P R e) k
  unfolding trial_of
  trial_none P R e k p may = omega (arith, price_none q l laid P R e k p.ended (omega (arith, p.site_in, laid.valid.sites_most)) may)

  -- A join's bit says whether it lies in S.
  bit_says : (e : ℕ) → e < q.joins.count → eqb (bit joins e) 1 ≡ inside q.joins S e
  bit_says e h = ap (λ (x : ℕ). eqb x 1) (bits_inside q.joins S q.joins.count e h) ∙ go (inside q.joins S e)
    where
      go : (d : Bool) → eqb (or_none d 1) 1 ≡ d
      go true = refl
      go false = refl

  -- The figure of a join: its trial where it lies in S, else none.
  join_case : (X : ℕ → Type 0) (k e : ℕ) → (e < q.joins.count → inside q.joins S e ≡ true → X (trial_of combine l (first_part q S e) (other_part q S e) (spared_row (first_part q S e) (other_part q S e) e) k)) →
      ((e < q.joins.count → inside q.joins S e ≡ false) → X none_mark) → X (join_trial combine l joins S k e)
  unfolding join_trial
  join_case X k e here out = go (eqb (bit joins e) 1) refl
    where
      go : (b : Bool) → eqb (bit joins e) 1 ≡ b → X (pick b (trial_by combine l (parts_at l S e) e k) none_mark)
      go true one =
          let found = join_of_bit q.joins S q.joins.count e (eqb-true (bit joins e) 1 one) in
          rw (part_of q l laid S s e found.0 found.1) (here found.0 found.1)
      go false other = out (λ h. sym (bit_says e h) ∙ other)

  join_shows : (k e : ℕ) → k < sites_of q → may_join q k ≡ true → e < q.joins.count → Shows most_trial (join_trial combine l joins S k e) (by_join combine D q S k e)
  unfolding by_join
  join_shows k e site may h =
      join_case (λ x. Shows most_trial x (by_join combine D q S k e)) k e
      (λ low within. rw within (trial_shows (first_part q S e) (other_part q S e) e k (parts_of combine C q l laid S s filled e k low within site) may))
      (λ outside. rw (outside h) (le_refl _))

  -- The least over the joins at a site that may join, and the lowest join of it. The loops try eight: the further ones are none.
  pub joins_kept : (k : ℕ) → k < sites_of q → may_join q k ≡ true →
      Kept most_trial (best (by_join combine D q S k) q.joins.count) (least_of (join_trial combine l joins S k) 8) (place_of (join_trial combine l joins S k) 8)
  joins_kept k site may =
      kept_rest most_trial (omega arith) (best (by_join combine D q S k) q.joins.count) (join_trial combine l joins S k) q.joins.count 8
      (omega (arith, laid.valid.tree.joins, laid.valid.relations_most))
      (λ e past. join_case (λ x. none_mark ≤ x) k e (λ low within. absurd (omega arith)) (λ outside. le_refl _))
      (kept_all most_trial (omega arith) (by_join combine D q S k) (join_trial combine l joins S k) q.joins.count (λ e h. join_shows k e site may h))

  -- The row of the joins is Joined's.
  pub joined_is : (k : ℕ) → k < sites_of q → joined_in combine l joins S k ≡ mark (joined combine q S k)
  unfolding joined joined_by
  joined_is k site = go (may_join q k) refl
    where
      go : (m : Bool) → may_join q k ≡ m → least_of (join_trial combine l joins S k) 8 ≡ mark (pick m (least (by_join combine D q S k) q.joins.count) none)
      go true may = (joins_kept k site may).figure_is
      go false may =
          none_kept (join_trial combine l joins S k) 8 λ e.
          join_case (λ x. none_mark ≤ x) k e
          (λ low within. trial_none (first_part q S e) (other_part q S e) e k (parts_of combine C q l laid S s filled e k low within site) may)
          (λ outside. le_refl _)
