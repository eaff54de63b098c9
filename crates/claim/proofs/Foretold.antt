-- What room tells of a decoded file is what load and solve answer: its pairs give the file's joins again, and load answers by these; a link changes neither
-- joins nor sites, so that every later solve needs the same cells and has the same trials.
use Prim.Native.Nat.{ℕ, ◌+◌, ◌-◌, ◌*◌, ◌≤◌, ◌<◌}
use native.Mathlib.Decide.{dec_lt}
use native.Mathlib.Omega.{arith}
use mathlib.Core.Path.{◌≡◌, refl}
use mathlib.Core.Logic.{◌↔◌}
use mathlib.Core.Bool.{true, ◌&&◌}
use mathlib.Core.List.{List, [], ◌∷◌}
use mathlib.Core.Option.{none, some}
use lib.ListN.{length}
use lib.Dec.{eqb}
use borrow.Author.Tests.{le-leb, eq-eqb}
use Rattle.relations.specs.Trees.{subqueries}
use Rattle.query.specs.declared.Query.{Query}
use Rattle.query.specs.Cost.{Cost}
use Rattle.query.specs.Query.{Valid, relations_of, sites_of}
use Rattle.query.proofs.Choice.{pick_all}
use Rattle.decoder.proofs.Valid.{decode_valid}
use Rattle.files.proofs.InOrder.{sections_of}
use Rattle.tables.specs.Tables.{cheapest, trials}
use Rattle.tables.specs.Work.{cells_needed}
use Rattle.room.specs.Room.{figures_of, in_limits, room}
use Rattle.planner.specs.State.{State}
use Rattle.planner.specs.Done.{Done}
use Rattle.planner.specs.Load.{load_by}
use Rattle.planner.specs.Link as linking
use Rattle.planner.specs.Link.{Link, sites_listed, terms_in_range, link}
use Rattle.planner.specs.Solve.{refused, solved, solve, has_room, solve_admitted, needed}
use Rattle.planner.proofs.Cells.{solve_is, enough_law}
use Rattle.claim.specs.Foretold.{after_links, trials_in, ForetoldLaw}
use Rattle.claim.proofs.Promise.{admitted, written_is}
use Rattle.claim.proofs.PairsAgain.{Paired, pairs_again}

-- Room admits the pairs that are read as the joins of a valid query, and tells the figures of these.
module _ (q : Query) (valid : Valid q) (pairs : List ℕ) (p : Paired (relations_of q) q.joins pairs) where
  in_limits_lem : (in_limits (relations_of q) (sites_of q) && eqb (length pairs) (2 * (relations_of q - 1))) ≡ true
  unfolding in_limits
  in_limits_lem =
      let n = relations_of q in
      let some_relation : 1 ≤ n = omega (arith, valid.tree.joins) in
      rw (le-leb 1 n some_relation, le-leb n 9 valid.relations_most, le-leb 1 (sites_of q) valid.sites_some, le-leb (sites_of q) 8 valid.sites_most)
      (eq-eqb (length pairs) (2 * (n - 1)) (omega (arith, valid.tree.joins)))

  told : room (relations_of q) (sites_of q) pairs ≡ figures_of (relations_of q) (sites_of q) q.joins
  unfolding room
  told = rw (in_limits_lem, p.again, valid.tree.reached)

-- A query stands that needs m cells and has t trials.
abbrev Has : (m t : ℕ) → State → Type 0
Has m t none = ⊥
Has m t (some q) = (cells_needed q ≡ m) × (trials q ≡ t)

link_keeps : (m t : ℕ) (l : Link) (s : State) → Has m t s → Has m t (link l s).next
unfolding link cells_needed
link_keeps m t l none h = h
link_keeps m t l (some q) h =
    let P : Done linking.Answer → Type 0 = λ d. Has m t d.next in
    pick_all P (sites_listed (sites_of q) l.sender l.receiver) _ _ (λ e. pick_all P (terms_in_range l.terms) _ _ (λ e. h) (λ e. h)) (λ e. h)

links_keep : (m t : ℕ) (links : List Link) (s : State) → Has m t s → Has m t (after_links links s)
links_keep m t [] s h = h
links_keep m t (l ∷ links) s h = link_keeps m t l (after_links links s) (links_keep m t links s h)

needs : (m t : ℕ) (s : State) → Has m t s → needed s ≡ m
needs m t none h = absurd h
needs m t (some q) h = h.0

-- Refusal 21 says that there are fewer than these.
few_exactly : (m t : ℕ) (s : State) → Has m t s → (cells : ℕ) (out : List ℕ) → ((solve cells out s).answer ≡ refused 21) ↔ (cells < m)
few_exactly m t none h cells out = absurd h
few_exactly m t (some q) h cells out = (
  (λ e. elim (dec_lt cells m) [ yes l ↦ l | no l ↦ absurd (enough_law.as_many cells out (some q) (omega (arith, h.0)) e) ]),
  λ l. rw (enough_law.fewer cells out q (omega (arith, h.0))),
)

-- Whatever the query costs, its trials are answered.
trials_answered : (q : Query) (c : Cost) (out : List ℕ) → has_room q c (length out) ≡ true → trials_in (solved q c out).answer ≡ some (trials q)
trials_answered q Cost.none out fits = refl
trials_answered q (Cost.some c) out fits = rw (written_is q c out fits)

solve_tells :
    (m t : ℕ) (s : State) → Has m t s → (cells : ℕ) (out : List ℕ) → solve_admitted s cells (length out) ≡ true →
    trials_in (solve cells out s).answer ≡ some t
solve_tells m t s h cells out ok =
    let a = admitted s cells (length out) ok in
    let same : trials a.query ≡ t = (rw a.in_force at h).1 in
    rw (solve_is s a.query cells out a.in_force a.enough, trials_answered a.query (cheapest ◌+◌ a.query) out a.room, same)

pub foretold_law : ForetoldLaw
unfolding load_by cells_needed
foretold_law f file q l e =
    let m = subqueries q.joins (relations_of q) * sites_of q in
    let has : (links : List Link) → Has m (trials q) (after_links links (some q)) = λ links. links_keep m (trials q) links (some q) (refl, refl) in
    record {
      told = told q (decode_valid f file q l e) _ (pairs_again f file q l (sections_of f file q l e));
      load_answers = λ s. rw e;
      solve_needs = λ s links. rw e (needs m (trials q) (after_links links (some q)) (has links));
      few_cells = λ s links. rw e (few_exactly m (trials q) (after_links links (some q)) (has links));
      solve_answers = λ links. solve_tells m (trials q) (after_links links (some q)) (has links);
    }
