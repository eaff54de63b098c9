-- What the writer writes at each call: the load of one relation, or the steps of the best join at the best site; the parts of a subquery before
-- its join; and the sends that are due. Each written piece is the definition's.
use Prim.Native.Nat.{ℕ, ◌<◌}
use native.Mathlib.Omega.{arith}
use mathlib.Core.Path.{◌≡◌, sym, ap, subst, ◌∙◌}
use mathlib.Core.List.{List, [], ◌∷◌, ◌++◌}
use lib.Count.{ones, count_trailing_zeros}
use lib.ListN.{length}
use borrow.Author.Tests.{eq-eqb, ne_eqb}
use Rattle.relations.specs.declared.splitting.Parts.{Parts}
use Rattle.relations.specs.Code.{most_sets}
use Rattle.relations.specs.Sets.{lowest}
use Rattle.relations.specs.Splits.{parts_by}
use Rattle.relations.specs.Trees.{Subquery}
use Rattle.relations.proofs.Connected.{subquery_range}
use Rattle.relations.proofs.Counts.{one_some, lowest_below, lowest_same, lowest_pow}
use Rattle.query.specs.declared.Query.{Query}
use Rattle.query.specs.Cost.{some}
use Rattle.query.specs.Query.{relations_of, sites_of, home}
use Rattle.rules.specs.Combine.{Combines}
use Rattle.tables.specs.Tables.{first_part, other_part}
use Rattle.tables.specs.Written.{send_steps, sends_due, best_site, best_join, joined_steps, delivered_steps, written_delivered, written_joined, step_bytes, join_step}
use Rattle.tables.proofs.Tables.{ones_some, delivered_one, BySite, ByJoin, delivered_found, joined_found}
use Rattle.tables.proofs.Written.{written_is}
use Rattle.tables.proofs.StepBytes.{step_bytes_append}
use Rattle.board.specs.Board.{side_at, homes_at}
use Rattle.board.specs.Figures.{mark}
use Rattle.filler.specs.Cells.{place_in}
use Rattle.filler.specs.Trials.{Lent, size_in, cell_in}
use Rattle.filler.proofs.Places.{reach_least}
use Rattle.filler.proofs.Parts.{parts_of, triable}
use Rattle.router.specs.Routing.{carriage_in, route_in, Carried}
use Rattle.solver.proofs.Routed.{route_is, carried_of}
use Rattle.solver.specs.Writing.{site_by, join_by, Known, ToDeliver, ToJoin}
use Rattle.solver.proofs.Choices.{filled_here}
use Rattle.filler.proofs.Columns.{part_is}
use Rattle.solver.proofs.Chosen.{site_is, join_is}

module _ (combine : ℕ → ℕ → ℕ) (C : Combines combine) (q : Query) (l : Lent) (S : ℕ) where
  abbrev delivered_bytes : ℕ → ℕ → List ℕ
  delivered_bytes P t = step_bytes (written_delivered combine q P t)

  abbrev joined_bytes : ℕ → List ℕ
  joined_bytes k = step_bytes (written_joined combine q S k)

  -- One relation: its load, then the sends that are due.
  module _ (t c : ℕ) (d : ToDeliver combine q l S t c) (one : ones S ≡ 1) where
    only_is : count_trailing_zeros 64 S ≡ lowest (relations_of q) S
    only_is =
        let low = (subquery_range q.joins (relations_of q) S d.known.subquery).1 in
        sym (lowest_same (relations_of q) 64 S (one_some S one) low (omega (arith, d.known.laid.valid.relations_most)))

    home_is : count_trailing_zeros 64 (homes_at l.board (lowest (relations_of q) S)) ≡ home q (lowest (relations_of q) S)
    home_is =
        let v = d.known.laid.valid in
        let r = lowest (relations_of q) S in
        let in-query : r < relations_of q = lowest_below (relations_of q) S (one_some S one) (subquery_range q.joins (relations_of q) S d.known.subquery).1 in
        ap (count_trailing_zeros 64) (d.known.laid.board.homes r in-query) ∙ lowest_pow 64 (home q r) (omega (arith, v.homes r in-query, v.sites_most))

    home_low : home q (lowest (relations_of q) S) < sites_of q
    home_low = d.known.laid.valid.homes (lowest (relations_of q) S) (lowest_below (relations_of q) S (one_some S one) (subquery_range q.joins (relations_of q) S d.known.subquery).1)

    pub home_listed : (h : ℕ) → h ≡ homes_at l.board (count_trailing_zeros 64 S) → count_trailing_zeros 64 h < sites_of q
    home_listed h is = rw (is, only_is, home_is) home_low

    pub one_bytes : (h : ℕ) → h ≡ homes_at l.board (count_trailing_zeros 64 S) →
        delivered_bytes S t ≡ (1 ∷ (count_trailing_zeros 64 S ∷ [])) ++ step_bytes (send_steps (route_in l.board (size_in l S) (count_trailing_zeros 64 h) t))
    unfolding delivered_steps
    one_bytes h is =
        rw (
          is,
          only_is,
          home_is,
          route_is q l d.known.laid S t (home q (lowest (relations_of q) S)) home_low,
          written_is combine q d.known.laid.valid S t c d.known.subquery d.cost_is,
          eq-eqb (ones S) 1 one,
        )

    pub one_carried : (h : ℕ) → h ≡ homes_at l.board (count_trailing_zeros 64 S) → Carried l.board (size_in l S) (count_trailing_zeros 64 h) t c
    one_carried h is =
        rw (is, only_is, home_is)
        (carried_of q l d.known.laid S t (home q (lowest (relations_of q) S)) c home_low
        (sym (delivered_one combine q d.known.laid.valid S t d.known.subquery one) ∙ d.cost_is))

  -- Two relations or more: the steps of its join at the best site, then the sends that are due.
  module _ (t c k : ℕ) (d : ToDeliver combine q l S t c) (more : ones S ≡ 1 → ⊥) (chosen : k ≡ site_by combine l S t) where
    best : k ≡ best_site combine q S t
    best =
        let known = d.known in
        chosen ∙ site_is combine C q l known.laid S known.subquery (filled_here combine C q l S known) t (omega (arith, d.listed, known.laid.valid.sites_most)) more

    by_site : BySite combine q d.known.laid.valid S t (best_site combine q S t) c
    by_site =
        let v = d.known.laid.valid in
        let s = d.known.subquery in
        delivered_found combine q v S t c s (omega (arith, ones_some q v S s)) d.cost_is

    pub more_join : ToJoin combine q l S k
    more_join =
        subst (λ (j : ℕ). ToJoin combine q l S j) (sym best)
        (record { known = d.known; listed = by_site.listed; cost = by_site.sum.one; cost_is = by_site.sum.one_is })

    pub more_carried : (x : ℕ) → x ≡ carriage_in l.board (size_in l S) k t → Carried l.board (size_in l S) k t x
    more_carried x is =
        let found = carried_of q l d.known.laid S t (best_site combine q S t) by_site.sum.other by_site.listed by_site.sum.other_is in
        record { is = is; some = omega (arith, found.is, found.some, ap (λ (j : ℕ). carriage_in l.board (size_in l S) j t) best) }

    pub more_bytes : delivered_bytes S t ≡ joined_bytes k ++ step_bytes (send_steps (route_in l.board (size_in l S) k t))
    unfolding delivered_steps
    more_bytes =
        rw (
          route_is q l d.known.laid S t k more_join.listed,
          best,
          written_is combine q d.known.laid.valid S t c d.known.subquery d.cost_is,
          ne_eqb (ones S) 1 more,
        )
        (step_bytes_append (written_joined combine q S (best_site combine q S t)) (sends_due q S (best_site combine q S t) t))

  -- A join: both parts, each of fewer relations, then the join itself.
  pub record Parted (k e P R : ℕ) : Type 0 where
    pub join_low : e < 8
    pub first : ToDeliver combine q l P k (cell_in l P k)
    pub second : ToDeliver combine q l R k (cell_in l R k)
    pub first_in : (P < most_sets) × (place_in l.places P k < length l.work)
    pub second_in : (R < most_sets) × (place_in l.places R k < length l.work)
    pub first_fewer : ones P < ones S
    pub second_fewer : ones R < ones S
    pub bytes : joined_bytes k ≡ delivered_bytes P k ++ (delivered_bytes R k ++ (3 ∷ (e ∷ [])))

  known_part : (P : ℕ) → Known combine q l S → Subquery q.joins (relations_of q) P → Known combine q l P
  known_part P k s = record { laid = k.laid; filled = k.filled; subquery = s }

  module _ (k : ℕ) (j : ToJoin combine q l S k) where
    -- The join that is taken last is the best one.
    found : ByJoin combine q j.known.laid.valid S k (best_join combine q S k) j.cost
    found = joined_found combine q j.known.laid.valid S k j.cost j.known.subquery j.cost_is

    last_is : join_by combine l S k ≡ best_join combine q S k
    last_is =
        let known = j.known in
        let fewer = ones_some q known.laid.valid (first_part q S (best_join combine q S k)) found.parts.first_part in
        join_is combine C q l known.laid S known.subquery (filled_here combine C q l S known) k j.listed found.may (λ one. omega (arith, found.smaller.first_fewer, fewer))

    by_best : Parted k (best_join combine q S k) (first_part q S (best_join combine q S k)) (other_part q S (best_join combine q S k))
    unfolding written_joined joined_steps
    by_best =
        let b = best_join combine q S k in
        let v = j.known.laid.valid in
        let known = j.known in
        let parts = parts_of combine C q l known.laid S known.subquery (filled_here combine C q l S known) b k found.known found.within j.listed in
        let tried = triable combine C q l known.laid S known.subquery (filled_here combine C q l S known) b k found.known found.within (omega (arith, j.listed, reach_least (sites_of q) v.sites_most)) in
        record {
          join_low = omega (arith, found.known, v.tree.joins, v.relations_most);
          first = record { known = known_part _ j.known found.parts.first_part; listed = j.listed; cost_is = found.one_is ∙ ap some (sym (parts.first_cell ∙ ap mark found.one_is)) };
          second = record { known = known_part _ j.known found.parts.second_part; listed = j.listed; cost_is = found.other_is ∙ ap some (sym (parts.second_cell ∙ ap mark found.other_is)) };
          first_in = (omega (arith, tried.priced.set_in), tried.first_place);
          second_in = (omega (arith, tried.priced.set_in), tried.second_place);
          first_fewer = found.smaller.first_fewer;
          second_fewer = found.smaller.second_fewer;
          bytes =
              step_bytes_append (written_delivered combine q (first_part q S b) k) (written_delivered combine q (other_part q S b) k ++ (join_step b ∷ []))
              ∙ ap (λ (m : List ℕ). delivered_bytes (first_part q S b) k ++ m) (step_bytes_append (written_delivered combine q (other_part q S b) k) (join_step b ∷ []));
        }

    pub parted : (e side : ℕ) (p : Parts) → e ≡ join_by combine l S k → side ≡ side_at l.board e → p ≡ parts_by S side → Parted k e p.first p.second
    parted e side p e-is side_is parts_are =
        let b = best_join combine q S k in
        let part = part_is combine C q l j.known.laid S j.known.subquery b found.known found.within in
        let e-best : e ≡ b = e-is ∙ last_is in
        rw (parts_are, side_is, e-best, part) by_best
