-- What a valid query's board gives: what is spared of two parts, the price of a join and that of a line are the definitions', and each keeps to
-- the limits that the sums ask.
use Prim.Native.Nat.{ℕ, ◌+◌, ◌*◌, ◌^◌, ◌≤◌, ◌<◌}
use native.Mathlib.Nat.{le_refl}
use native.Mathlib.Omega.{arith}
use mathlib.Core.Path.{◌≡◌, refl, sym, ap, ◌∙◌}
use mathlib.Core.Bool.{Bool, true, false}
use lib.Count.{ones, count_trailing_zeros}
use lib.Dec.{eqb}
use lib.ListN.{get_or}
use borrow.Author.Tests.{eq-eqb, eqb-true}
use Rattle.relations.specs.Sets.{bit}
use Rattle.relations.specs.Growth.{first, second}
use Rattle.relations.proofs.Counts.{one_some, lowest_below, single_of_ones, lowest_alone, lowest_same}
use Rattle.query.specs.declared.Query.{Query}
use Rattle.query.specs.Choice.{pick}
use Rattle.query.specs.Cost.{none, some}
use Rattle.query.specs.Query.{Valid, relations_of, sites_of, may_join, join_fixed, join_rate, is_open, line_fixed, line_rate, size}
use Rattle.query.specs.Prices.{line_charge, line_price, sending, reads, join_price, dearest_line, indexed}
use Rattle.query.specs.Spared.{spareable, spared}
use Rattle.query.proofs.Prices.{line_most, spareable_most, spared_most, spared_alone, reads_spared}
use Rattle.query.proofs.Indexed.{one_of_nine}
use Rattle.tables.specs.Tables.{only}
use Rattle.board.specs.Figures.{none_mark}
use Rattle.board.specs.Board.{lane, fixed_at, operand_row, spared_row, fixed_of, spareable_of, line_fixed_of, line_rate_of}
use Rattle.filler.specs.Trials.{Lent, size_in, price_in, Priced}
use Rattle.sender.specs.Delivering.{line_in, Carriable}
use Rattle.filler.specs.Filling.{LaidOut}
use Rattle.filler.proofs.Places.{set_low}
use Rattle.filler.proofs.Marks.{Shows}

-- The lowest relation of a set of one is the query's.
pub only_is : (q : Query) → Valid q → (S : ℕ) → S < 2 ^ relations_of q → ones S ≡ 1 → count_trailing_zeros 64 S ≡ only q S
only_is q v S low one = sym (lowest_same (relations_of q) 64 S (one_some S one) low (omega (arith, v.relations_most)))

module _ (q : Query) (l : Lent) (laid : LaidOut q l) where
  -- What the index of a query's relation can spare, as what qualifies of a set of it alone.
  spareable_alone : (S k : ℕ) → S < 2 ^ relations_of q → ones S ≡ 1 → spareable_of q (only q S) k ≡ spareable (indexed q S k) (size q S)
  unfolding spareable_of indexed
  spareable_alone S k low one = rw (eq-eqb (ones S) 1 one, ← single_of_ones (relations_of q) S low one)

  -- Nothing can be spared of two relations or more.
  spareable_more : (S k : ℕ) → eqb (ones S) 1 ≡ false → spareable (indexed q S k) (size q S) ≡ 0
  unfolding indexed
  spareable_more S k more = rw more

  operand_of : (S k : ℕ) → S < 2 ^ relations_of q → k < 8 → lane l.board (operand_row S) k ≡ spareable (indexed q S k) (size q S)
  unfolding operand_row
  operand_of S k low site = go (eqb (ones S) 1) refl
    where
      go : (o : Bool) → eqb (ones S) 1 ≡ o → lane l.board (pick o (4 + count_trailing_zeros 64 S) 13) k ≡ spareable (indexed q S k) (size q S)
      go true e =
          let one : ones S ≡ 1 = eqb-true (ones S) 1 e in
          rw (only_is q laid.valid S low one) (laid.board.spareables (only q S) k (lowest_below (relations_of q) S (one_some S one) low) site)
          ∙ spareable_alone S k low one
      go false e = laid.board.nothing k site ∙ sym (spareable_more S k e)

  -- Two parts of a subquery by join e, each within the query and with its end of the join.
  pub record Ended (P R e : ℕ) : Type 0 where
    pub join_in : e < q.joins.count
    pub first_low : P < 2 ^ relations_of q
    pub second_low : R < 2 ^ relations_of q
    pub first_in : bit P (first q.joins e) ≡ 1
    pub second_in : bit R (second q.joins e) ≡ 1

  -- The row with what is spared where they are joined has just that.
  spared_of : (P R e k : ℕ) → Ended P R e → k < 8 →
      lane l.board (spared_row P R e) k ≡ spared (spareable (indexed q P k) (size q P)) (spareable (indexed q R k) (size q R))
  unfolding spared_row
  spared_of P R e k d site = go (eqb (ones P) 1) (eqb (ones R) 1) refl refl
    where
      v : ℕ
      v = spareable (indexed q P k) (size q P)

      w : ℕ
      w = spareable (indexed q R k) (size q R)

      alone : (S r : ℕ) → S < 2 ^ relations_of q → eqb (ones S) 1 ≡ true → bit S r ≡ 1 → spareable_of q r k ≡ spareable (indexed q S k) (size q S)
      alone S r low one here =
          ap (λ (x : ℕ). spareable_of q x k) (sym (lowest_alone (relations_of q) S r low (eqb-true (ones S) 1 one) here)) ∙ spareable_alone S k low (eqb-true (ones S) 1 one)

      go : (o t : Bool) → eqb (ones P) 1 ≡ o → eqb (ones R) 1 ≡ t →
          lane l.board (pick o (pick t (30 + e) (operand_row P)) (operand_row R)) k ≡ spared v w
      go true true one other =
          laid.board.pairs e k d.join_in site ∙ rw (alone P _ d.first_low one d.first_in, alone R _ d.second_low other d.second_in)
      go true false one more = operand_of P k d.first_low site ∙ rw (spareable_more R k more) (sym (spared_alone v).0)
      go false t more other = operand_of R k d.second_low site ∙ rw (spareable_more P k more) (sym (spared_alone w).1)

  -- What a join is charged: its price where the site may join, and no less than the figure of none where it may not.
  charged : (P R e k : ℕ) → Ended P R e → k < 8 →
      price_in l.board l.sizes P R (spared_row P R e) k ≡ fixed_of q k + join_rate q k * (reads (indexed q P k) (size q P) (indexed q R k) (size q R) + size q (P + R))
  unfolding size
  charged P R e k d site =
      rw (
        laid.board.fixed k site,
        laid.board.rate k site,
        spared_of P R e k d site,
        reads_spared (indexed q P k) (size q P) (indexed q R k) (size q R),
        laid.sizes,
      )

  pub price_is : (P R e k : ℕ) → Ended P R e → k < 8 → may_join q k ≡ true →
      price_in l.board l.sizes P R (spared_row P R e) k ≡ join_price q k (indexed q P k) P (indexed q R k) R
  unfolding fixed_of join_price
  price_is P R e k d site may = charged P R e k d site ∙ rw may

  pub price_none : (P R e k : ℕ) → Ended P R e → k < 8 → may_join q k ≡ false → none_mark ≤ price_in l.board l.sizes P R (spared_row P R e) k
  unfolding fixed_of
  price_none P R e k d site may = rw (charged P R e k d site, may) (omega arith)

  fixed_most : (k : ℕ) → k < 8 → fixed_at l.board k ≤ none_mark
  unfolding fixed_of join_fixed
  fixed_most k site = rw (laid.board.fixed k site) (go (may_join q k))
    where
      go : (m : Bool) → pick m (get_or q.sites.fixed k 0) none_mark ≤ none_mark
      go true = omega (arith, laid.valid.join_fixed_most k)
      go false = le_refl _

  -- The row stands on the board, and what is spared is within both sizes.
  operand_low : (S : ℕ) → S < 2 ^ relations_of q → operand_row S < 14
  unfolding operand_row
  operand_low S low = go (eqb (ones S) 1) refl
    where
      go : (o : Bool) → eqb (ones S) 1 ≡ o → pick o (4 + count_trailing_zeros 64 S) 13 < 14
      go true e = omega (arith, one_of_nine S (eqb-true (ones S) 1 e) (set_low q laid.valid S low))
      go false e = omega arith

  row_in : (P R e : ℕ) → Ended P R e → spared_row P R e < 38
  unfolding spared_row
  row_in P R e d = go (eqb (ones P) 1) (eqb (ones R) 1)
    where
      go : (o t : Bool) → pick o (pick t (30 + e) (operand_row P)) (operand_row R) < 38
      go true true = omega (arith, d.join_in, laid.valid.tree.joins, laid.valid.relations_most)
      go true false = omega (arith, operand_low P d.first_low)
      go false t = omega (arith, operand_low R d.second_low)

  within : (P R e k : ℕ) → Ended P R e → k < 8 → lane l.board (spared_row P R e) k ≤ get_or l.sizes P 0 + get_or l.sizes R 0
  unfolding size
  within P R e k d site =
      let x : ℕ = size q P in
      let y : ℕ = size q R in
      let one : spareable (indexed q P k) x ≤ x + y = omega (arith, spareable_most (indexed q P k) x) in
      let other : spareable (indexed q R k) y ≤ x + y = omega (arith, spareable_most (indexed q R k) y) in
      rw (spared_of P R e k d site, laid.sizes) (spared_most _ _ (x + y) one other)

  pub priced : (P R e k : ℕ) → Ended P R e → P + R < 2 ^ relations_of q → k < 8 → Priced l.board l.sizes P R (spared_row P R e) k
  unfolding join_rate
  priced P R e k d low site =
      record {
        site_in = site;
        row_in = row_in P R e d;
        set_in = set_low q laid.valid (P + R) low;
        fixed_most = fixed_most k site;
        rate_most = rw (laid.board.rate k site) (laid.valid.join_rate_most k);
        spared_most = within P R e k d site;
        sizes_most = λ i. rw laid.sizes (laid.valid.sizes_most i);
      }

  -- What a line charges for a set, and the lines' limits.
  pub line_shows : (S k t : ℕ) → k < sites_of q → t < 8 → Shows dearest_line (line_in l.board (size_in l S) k t) (sending q S k t)
  unfolding line_in line_fixed_of line_rate_of sending line_price size
  line_shows S k t h low =
      rw (laid.board.line_fixed k t h low, laid.board.line_rate k t h low, laid.sizes) (go (eqb k t) (is_open q k t))
    where
      go : (same opened : Bool) →
          Shows dearest_line (line_charge (pick same none_mark (pick opened (line_fixed q k t) none_mark)) (pick same 0 (line_rate q k t)) (get_or q.sizes S 0))
          (pick same none (pick opened (some (line_charge (line_fixed q k t) (line_rate q k t) (get_or q.sizes S 0))) none))
      go true opened = omega arith
      go false true = (refl, line_most q laid.valid S k t)
      go false false = omega arith

  line_fixed_most : (k t : ℕ) → line_fixed_of q k t ≤ none_mark
  unfolding line_fixed_of line_fixed
  line_fixed_most k t = go (eqb k t) (is_open q k t)
    where
      go : (same opened : Bool) → pick same none_mark (pick opened (get_or q.lines.fixed (8 * k + t) 0) none_mark) ≤ none_mark
      go true opened = le_refl _
      go false true = omega (arith, laid.valid.line_fixed_most (8 * k + t))
      go false false = le_refl _

  line_rate_most : (k t : ℕ) → line_rate_of q k t ≤ 1_000
  unfolding line_rate_of line_rate
  line_rate_most k t = go (eqb k t)
    where
      go : (same : Bool) → pick same 0 (get_or q.lines.rate (8 * k + t) 0) ≤ 1_000
      go true = omega arith
      go false = laid.valid.line_rate_most (8 * k + t)

  pub lines_carriable : (S : ℕ) → Carriable l.board (size_in l S)
  lines_carriable S =
      record {
        few = omega (arith, laid.board.sites, laid.valid.sites_most);
        fixed_most = λ k t h low. rw (laid.board.line_fixed k t (omega (arith, laid.board.sites)) low) (line_fixed_most k t);
        rate_most = λ k t h low. rw (laid.board.line_rate k t (omega (arith, laid.board.sites)) low) (line_rate_most k t);
        size_most = rw laid.sizes (laid.valid.sizes_most S);
      }
