-- The board of a query: after all steps each row is what the query has there.
use Prim.Native.Nat.{ℕ, ◌+◌, ◌*◌, ◌≤◌, ◌<◌}
use native.Mathlib.Omega.{arith}
use mathlib.Core.Path.{◌≡◌, ◌∙◌}
use mathlib.Core.List.{List}
use lib.ListN.{length, get_or, set, replicate, length-set, get_or-replicate}
use lib.Seq.{get_or-set_same, get_or-set_other}
use Rattle.std.proofs.lemmas.Grind.{common_steps}
use Rattle.relations.specs.Growth.{first}
use Rattle.query.specs.declared.Query.{Query}
use Rattle.query.proofs.Prices.{spared_alone}
use Rattle.query.specs.Query.{Valid, relations_of, sites_of}
use Rattle.board.specs.Board.{entries, BoardOf, spareable_of}
use Rattle.board.specs.Laying.{Kept, JoiningLaid, RelationsLaid, PairsLaid, LinesLaid}

-- All of it: what is laid stays, as every later step stores elsewhere. No row had anything before.
pub board_laid : (q : Query) → Valid q → (o a b c d : List ℕ) → o ≡ replicate entries 0 →
    JoiningLaid o a q → RelationsLaid a b q (relations_of q) → PairsLaid b c q q.joins.count → LinesLaid c d q (sites_of q) → BoardOf q (set (set d 313 q.joins.count) 314 (sites_of q))
board_laid q v o a b c d empty joining relations pairs lines =
    record {
      long = last.long ∙ long;
      ends = λ e h. front (0 + e) (omega (arith, few)) ∙ joining.ends_row e h;
      sides = λ e h. front (8 + e) (omega (arith, few)) ∙ rw (← v.tree.joins) (joining.sides_row e h);
      fixed = λ k h. front (16 + k) (omega arith) ∙ joining.fixed_row k h;
      rate = λ k h. front (24 + k) (omega arith) ∙ joining.rate_row k h;
      spareables = λ r k h m. after (8 * (4 + r) + k) (omega (arith, v.relations_most)) ∙ relations.spareables r h k m
          ∙ rw (nothing_before (8 * (4 + r) + k) (omega arith) (omega (arith, v.relations_most))) (spared_alone _).1;
      nothing = λ k h. after (104 + k) (omega arith) ∙ relations.between (104 + k) (omega (arith, v.relations_most)) (omega arith) ∙ nothing_before (104 + k) (omega arith) (omega arith);
      pairs = λ e k h m. last.below (8 * (30 + e) + k) (omega (arith, few)) ∙ lines.kept.above (8 * (30 + e) + k) (omega arith) ∙ pairs.pairs e h k m
          ∙ rw (relations.between (8 * (30 + e) + k) (omega (arith, v.relations_most)) (omega (arith, few)), nothing_before (8 * (30 + e) + k) (omega arith) (omega (arith, few)), (spared_alone (spareable_of q (first q.joins e) k)).1);
      line_fixed = λ k t h m. last.below (8 * (14 + k) + t) (omega (arith, v.sites_most)) ∙ lines.fixed_rows k h t m;
      line_rate = λ k t h m. last.below (8 * (22 + k) + t) (omega (arith, v.sites_most)) ∙ lines.rate_rows k h t m;
      homes = λ r h. last.below (304 + r) (omega (arith, v.relations_most)) ∙ lines.kept.above (304 + r) (omega arith) ∙ pairs.kept.above (304 + r) (omega (arith, few)) ∙ relations.homes r h;
      joins = get_or-set_other (set d 313 q.joins.count) 314 313 (sites_of q) 0 (λ e. omega arith) ∙ get_or-set_same d 313 q.joins.count 0 (omega (arith, long));
      sites = get_or-set_same (set d 313 q.joins.count) 314 (sites_of q) 0 (omega (arith, long, length-set d 313 q.joins.count));
    }
  where
    new : List ℕ
    new = set (set d 313 q.joins.count) 314 (sites_of q)

    few : q.joins.count ≤ 8
    few = omega (arith, v.relations_most, v.tree.joins)

    long : length d ≡ entries
    long = lines.kept.long ∙ pairs.kept.long ∙ relations.long ∙ joining.long

    nothing_before : (j : ℕ) → 32 ≤ j → j < entries → get_or a j 0 ≡ 0
    nothing_before j h g = joining.later j h ∙ rw empty (get_or-replicate entries j 0 0 g)

    last : Kept d new 313 315
    last = grind (arith, common_steps)

    after : (j : ℕ) → j < 112 → get_or new j 0 ≡ get_or b j 0
    after j h = last.below j (omega arith) ∙ lines.kept.below j (omega arith) ∙ pairs.kept.below j (omega arith)

    front : (j : ℕ) → j < 32 → get_or new j 0 ≡ get_or a j 0
    front j h = after j (omega arith) ∙ relations.before j h
