-- The two parts of a subquery by a join in it, with their cells filled: what a trial of them asks.
use Prim.Native.Nat.{ℕ, ◌+◌, ◌-◌, ◌^◌, ◌≤◌, ◌<◌}
use native.Mathlib.Omega.{arith}
use mathlib.Core.Path.{◌≡◌, sym, ap, subst, ◌∙◌}
use mathlib.Core.Bool.{true}
use lib.ListN.{length, get_or}
use lib.Bits.{bit_and}
use lib.Pow.{pow_mono}
use Rattle.relations.specs.Growth.{inside}
use Rattle.relations.specs.Trees.{Subquery, join_bits}
use Rattle.relations.proofs.Connected.{subquery_range}
use Rattle.relations.proofs.JoinBits.{bits_below, join_of_bit}
use Rattle.relations.proofs.Splits.{part_by_side, grown_split, split_smaller}
use Rattle.query.specs.declared.Query.{Query}
use Rattle.query.specs.Query.{relations_of, sites_of}
use Rattle.rules.specs.Combine.{Combines}
use Rattle.tables.specs.Tables.{first_part, other_part, delivered}
use Rattle.tables.specs.Theorems.{most_cost}
use Rattle.tables.specs.Work.{place}
use Rattle.tables.proofs.Most.{delivered_most}
use Rattle.tables.proofs.Work.{place_after}
use Rattle.board.specs.Figures.{none_mark, mark}
use Rattle.board.specs.Board.{side_at, spared_row}
use Rattle.filler.specs.Cells.{place_in, reach}
use Rattle.filler.specs.Trials.{Lent, cell_in, Triable, Joinable}
use Rattle.filler.specs.Filling.{LaidOut, Filled}
use Rattle.filler.proofs.Marks.{UpToOr, up_to_is}
use Rattle.filler.proofs.Places.{reach_eight, reach_within}
use Rattle.filler.proofs.Boards.{Ended, priced}

-- The part that the side of a join gives.
pub part_of : (q : Query) (l : Lent) → LaidOut q l → (S : ℕ) → Subquery q.joins (relations_of q) S → (e : ℕ) → e < q.joins.count →
    inside q.joins S e ≡ true → bit_and S (side_at l.board e) ≡ first_part q S e
part_of q l laid S s e h within =
    ap (bit_and S) (laid.board.sides e h) ∙ sym (part_by_side q.joins (relations_of q) laid.valid.tree S e s h within)

module _ (combine : ℕ → ℕ → ℕ) (C : Combines combine) (q : Query) (l : Lent) (laid : LaidOut q l) (S : ℕ) (s : Subquery q.joins (relations_of q) S)
    (filled : Filled combine q l.places l.work S) where
  pub delivered_up_to : (P k : ℕ) → Subquery q.joins (relations_of q) P → UpToOr most_cost (delivered combine q P k)
  delivered_up_to P k p = up_to_is most_cost (delivered combine q P k) (λ c e. delivered_most combine C q laid.valid P k c p e)

  -- The cells of a smaller subquery stand at its places.
  placed : (P k : ℕ) → Subquery q.joins (relations_of q) P → P < S → place_in l.places P k ≡ place q P k
  placed P k p less = ap (λ (x : ℕ). x + k) (filled.first P less p) ∙ sym (place_after q P k)

  cell_is : (P k : ℕ) → Subquery q.joins (relations_of q) P → P < S → k < sites_of q → cell_in l P k ≡ mark (delivered combine q P k)
  cell_is P k p less site = ap (λ (i : ℕ). get_or l.work i 0) (placed P k p less) ∙ filled.each P k less p site

  -- What is known of the two parts.
  pub record Parts (P R e k : ℕ) : Type 0 where
    pub site_in : k < sites_of q
    pub ended : Ended q l laid P R e
    pub whole : P + R ≡ S
    pub first_part : Subquery q.joins (relations_of q) P
    pub second_part : Subquery q.joins (relations_of q) R
    pub first_cell : cell_in l P k ≡ mark (delivered combine q P k)
    pub second_cell : cell_in l R k ≡ mark (delivered combine q R k)

  ended : (e : ℕ) → e < q.joins.count → inside q.joins S e ≡ true → Ended q l laid (first_part q S e) (other_part q S e) e
  ended e h within =
      let parts = grown_split q.joins (relations_of q) laid.valid.tree S e s h within in
      record {
        join_in = h;
        first_low = (subquery_range q.joins (relations_of q) (first_part q S e) parts.first_part).1;
        second_low = (subquery_range q.joins (relations_of q) (other_part q S e) parts.second_part).1;
        first_in = parts.first_in;
        second_in = parts.second_in;
      }

  pub parts_of : (e k : ℕ) → e < q.joins.count → inside q.joins S e ≡ true → k < sites_of q → Parts (first_part q S e) (other_part q S e) e k
  parts_of e k h within site =
      let parts = grown_split q.joins (relations_of q) laid.valid.tree S e s h within in
      let small = split_smaller q.joins (relations_of q) S e _ parts in
      record {
        site_in = site;
        ended = ended e h within;
        whole = parts.whole;
        first_part = parts.first_part;
        second_part = parts.second_part;
        first_cell = cell_is (first_part q S e) k parts.first_part small.first_less site;
        second_cell = cell_is (other_part q S e) k parts.second_part small.second_less site;
      }

  -- What a trial asks of one of them, as far as the loops reach.
  module _ (P k : ℕ) (p : Subquery q.joins (relations_of q) P) (less : P < S) (low : k < reach (sites_of q)) where
    cell_place : place_in l.places P k < length l.work
    cell_place = omega (arith, placed P k p less, place_after q P k, reach_within q laid.valid P S p s less, filled.room)

    cell_most : cell_in l P k ≤ none_mark
    cell_most = rw (placed P k p less) (filled.most P k less p low)

  pub triable : (e k : ℕ) → e < q.joins.count → inside q.joins S e ≡ true → k < reach (sites_of q) → Triable l (first_part q S e) (other_part q S e) (spared_row (first_part q S e) (other_part q S e) e) k
  triable e k h within low =
      let parts = grown_split q.joins (relations_of q) laid.valid.tree S e s h within in
      let small = split_smaller q.joins (relations_of q) S e _ parts in
      let bounded : S < 2 ^ relations_of q = (subquery_range q.joins (relations_of q) S s).1 in
      record {
        priced = priced q l laid (first_part q S e) (other_part q S e) e k (ended e h within) (omega (arith, parts.whole)) (omega (arith, reach_eight (sites_of q)));
        first_place = cell_place (first_part q S e) k parts.first_part small.first_less low;
        second_place = cell_place (other_part q S e) k parts.second_part small.second_less low;
        first_cell = cell_most (first_part q S e) k parts.first_part small.first_less low;
        second_cell = cell_most (other_part q S e) k parts.second_part small.second_less low;
      }

  -- What the joins of S ask.
  pub joinable : Joinable l (join_bits q.joins S q.joins.count) S
  joinable =
      let most : 2 ^ q.joins.count ≤ 2 ^ 8 = pow_mono {j = 8} (omega (arith, laid.valid.tree.joins, laid.valid.relations_most)) in
      record {
        few = omega (arith, bits_below q.joins S q.joins.count);
        some_site = rw laid.board.sites laid.valid.sites_some;
        few_sites = rw laid.board.sites laid.valid.sites_most;
        each = λ e k low site one. let found = join_of_bit q.joins S q.joins.count e one in
            subst (λ (P : ℕ). Triable l P (S - P) (spared_row P (S - P) e) k) (sym (part_of q l laid S s e found.0 found.1))
            (triable e k found.0 found.1 (rw laid.board.sites at site));
      }
