-- A table of routes to a site, one number of sends more each turn; and what the choices among its figures are.
use Prim.Native.Nat.{ℕ, zero, suc, ◌+◌, ◌-◌, ◌*◌, ◌≤◌, ◌<◌}
use native.Mathlib.Nat.{le_refl}
use native.Mathlib.Numerals.{add-one}
use native.Mathlib.Decide.{ℕ_discrete}
use native.Mathlib.Omega.{arith}
use mathlib.Core.Path.{◌≡◌, refl, ap, ◌∙◌}
use mathlib.Core.List.{List, [], ◌∷◌, ◌++◌}
use lib.Dec.{eqb}
use lib.ListN.{length, get_or, set, length-set, replicate, get_or-replicate}
use lib.Seq.{get_or-set_same, get_or-set_other}
use borrow.Author.Count.{below_more}
use borrow.Author.Tests.{eq-eqb, ne_eqb}
use Rattle.query.specs.Choice.{pick}
use Rattle.board.specs.declared.figures.Choice.{Choice}
use Rattle.board.specs.Figures.{none_mark, least_of, place_of, ChoiceOf}
use Rattle.board.specs.Board.{sites_at}
use Rattle.board.proofs.LeastFigures.{least_most, least_same, place_same}
use Rattle.tables.specs.Written.{send_steps, step_bytes}
use Rattle.router.specs.Wrote.{Wrote}
use Rattle.router.proofs.Stores.{wrote_then, room_first, room_next}
use Rattle.router.proofs.LeastPlaces.{place_below}
use Rattle.router.specs.Routing.{first_to, by_sends_in, stops_in, Figured, SendsAdded, RoutesTo}

figured_set : (table : List ℕ) (j v : ℕ) → Figured table → v ≤ none_mark → Figured (set table j v)
figured_set table j v f h = record { long = length-set table j v ∙ f.long; most = λ i low. go i low (ℕ_discrete i j) }
  where
    go : (i : ℕ) → i < 64 → Dec (i ≡ j) → get_or (set table j v) i 0 ≤ none_mark
    go i low (yes e) = rw (e, get_or-set_same table j v 0 (omega (arith, f.long))) h
    go i low (no d) = rw (get_or-set_other table j i v 0 d) (f.most i low)

module _ (b : List ℕ) (size i : ℕ) (old : List ℕ) where
  pub added_more : (new : List ℕ) (k v : ℕ) → SendsAdded b size i old new k → k < 8 → i < 7 → sites_at b ≤ 8 →
      v ≡ least_of (first_to b size k (λ (m : ℕ). get_or new (8 * i + m) 0)) (sites_at b) → SendsAdded b size i old (set new (8 * (i + 1) + k) v) (k + 1)
  added_more new k v a low few sites is =
      record {
        figured = figured_set new (8 * (i + 1) + k) v a.figured (rw is (least_most _ (sites_at b)));
        before = λ j h. get_or-set_other new (8 * (i + 1) + k) j v 0 (λ q. omega arith) ∙ a.before j h;
        each =
            below_more (λ (u : ℕ). get_or (set new (8 * (i + 1) + k) v) (8 * (i + 1) + u) 0 ≡ least_of (first_to b size u (λ (m : ℕ). get_or old (8 * i + m) 0)) (sites_at b)) k
            (λ u h. get_or-set_other new (8 * (i + 1) + k) (8 * (i + 1) + u) v 0 (λ q. omega arith) ∙ a.each u h)
            (get_or-set_same new (8 * (i + 1) + k) v 0 (omega (arith, a.figured.long)) ∙ is
            ∙ least_same _ _ (sites_at b) (λ m h. rw (a.before (8 * i + m) (omega arith))));
      }

module _ (b : List ℕ) (size t : ℕ) where
  pub routes_none : t < 8 → sites_at b ≤ 8 → RoutesTo b size t 1 (set (replicate 64 none_mark) t 0)
  unfolding by_sends_in
  routes_none low few =
      record {
        figured = figured_set (replicate 64 none_mark) t 0 (record { long = refl; most = λ j h. rw (get_or-replicate 64 j none_mark 0 h) (le_refl _) }) (omega arith);
        each = λ i k h l. row i k h (omega arith) (ℕ_discrete k t);
      }
    where
      lane : (k : ℕ) → k < 8 → Dec (k ≡ t) → get_or (set (replicate 64 none_mark) t 0) k 0 ≡ pick (eqb k t) 0 none_mark
      lane k l (yes e) = rw (e, eq-eqb t t refl) (get_or-set_same (replicate 64 none_mark) t 0 0 (omega arith))
      lane k l (no d) = rw (ne_eqb k t d) (get_or-set_other (replicate 64 none_mark) t k 0 0 d ∙ get_or-replicate 64 k none_mark 0 (omega arith))

      row : (i k : ℕ) → i < 1 → k < 8 → Dec (k ≡ t) → get_or (set (replicate 64 none_mark) t 0) (8 * i + k) 0 ≡ by_sends_in b size t i k
      row zero k h l d = let at : 8 * 0 + k ≡ k = omega arith in ap (λ (j : ℕ). get_or (set (replicate 64 none_mark) t 0) j 0) at ∙ lane k l d
      row (suc i) k h l d = absurd (omega arith)

  pub routes_more : (i n : ℕ) (old new : List ℕ) → n ≡ i + 1 → sites_at b ≤ 8 → i < 7 → RoutesTo b size t n old → SendsAdded b size i old new (sites_at b) → RoutesTo b size t (n + 1) new
  unfolding by_sends_in
  routes_more i n old new next few low r a =
      record {
        figured = a.figured;
        each = λ j k h l. below_more (λ (j : ℕ). (k : ℕ) → k < sites_at b → get_or new (8 * j + k) 0 ≡ by_sends_in b size t j k) n
            (λ j h k l. a.before (8 * j + k) (omega arith) ∙ r.each j k h l) last j h k l;
      }
    where
      last : (k : ℕ) → k < sites_at b → get_or new (8 * n + k) 0 ≡ by_sends_in b size t n k
      last k l = let here : get_or new (8 * n + k) 0 ≡ least_of (first_to b size k (λ (m : ℕ). get_or old (8 * i + m) 0)) (sites_at b) = rw next (a.each k l) in here ∙ rw (next, add-one i) (least_same _ _ (sites_at b) (λ m h. rw (r.each i m (omega arith) h)))

  pub routes_done : (m n : ℕ) (table : List ℕ) → n ≤ m → RoutesTo b size t m table → RoutesTo b size t n table
  routes_done m n table h r = record { figured = r.figured; each = λ i k l low. r.each i k (omega arith) low }

  -- A choice among its figures is one among the definition's.
  pub next_chosen : (n : ℕ) (table : List ℕ) → RoutesTo b size t n table → (i k : ℕ) (c : Choice) → i < n →
      ChoiceOf (first_to b size k (λ (m : ℕ). get_or table (8 * i + m) 0)) (sites_at b) c → c.at ≡ place_of (first_to b size k (by_sends_in b size t i)) (sites_at b)
  next_chosen n table r i k c h chosen = chosen.at_is ∙ place_same _ _ (sites_at b) (λ m l. rw (r.each i m h l))

-- The bytes of a route's sends: none, or the first send's and those on from there. A site of the table is a lane.
pub sends_none : (b : List ℕ) (size t i k : ℕ) → i ≡ 0 → step_bytes (send_steps (stops_in b size t i k)) ≡ []
unfolding stops_in
sends_none b size t zero k e = refl
sends_none b size t (suc i) k e = absurd (omega arith)

pub sends_more : (b : List ℕ) (size t i k m : ℕ) → (i ≡ 0 → ⊥) → m ≡ place_of (first_to b size k (by_sends_in b size t (i - 1))) (sites_at b) →
    step_bytes (send_steps (stops_in b size t i k)) ≡ (2 ∷ (m ∷ [])) ++ step_bytes (send_steps (stops_in b size t (i - 1) m))
unfolding stops_in
sends_more b size t zero k m some is = absurd (some refl)
sends_more b size t (suc i) k m some is =
    let one : suc i - 1 ≡ i = omega arith in
    rw (is, one)

pub place_low : (g : ℕ → ℕ) (s m : ℕ) → 0 < s → m ≡ place_of g s → m < s
place_low g s m some is = rw is (place_below g s some)

one_fewer : (i : ℕ) → (i ≡ 0 → ⊥) → i - 1 < i
one_fewer zero some = absurd (some refl)
one_fewer (suc i) some = omega arith

-- What the writer of some sends is asked, and what it leaves: the first send, then the others from there.
module _ (b : List ℕ) (size t i k at m : ℕ) (table old : List ℕ) (r : RoutesTo b size t i table) (some : i ≡ 0 → ⊥) (few : i < sites_at b) (c : Choice)
    (chosen : ChoiceOf (first_to b size k (λ (j : ℕ). get_or table (8 * (i - 1) + j) 0)) (sites_at b) c) (is : m ≡ c.at)
    (room : at + length (step_bytes (send_steps (stops_in b size t i k))) ≤ length old) where
  abbrev rest : List ℕ
  rest = step_bytes (send_steps (stops_in b size t (i - 1) m))

  place : m ≡ place_of (first_to b size k (by_sends_in b size t (i - 1))) (sites_at b)
  place = is ∙ next_chosen b size t i table r (i - 1) k c (one_fewer i some) chosen

  pub next_listed : m < sites_at b
  next_listed = place_low _ (sites_at b) m (omega arith) place

  in_two : step_bytes (send_steps (stops_in b size t i k)) ≡ (2 ∷ (m ∷ [])) ++ rest
  in_two = sends_more b size t i k m some place

  pub first_room : at + 2 ≤ length old
  first_room = room_first old (2 ∷ (m ∷ [])) rest _ at in_two room

  pub rest_room : (mid : List ℕ) (p : ℕ) → Wrote old at (2 ∷ (m ∷ [])) p mid → p + length rest ≤ length mid
  rest_room mid p w = room_next old mid (2 ∷ (m ∷ [])) rest _ at p in_two room w

  pub sends_wrote : (mid new : List ℕ) (p e : ℕ) → Wrote old at (2 ∷ (m ∷ [])) p mid → Wrote mid p rest e new → Wrote old at (step_bytes (send_steps (stops_in b size t i k))) e new
  sends_wrote mid new p e w x = wrote_then old mid new (2 ∷ (m ∷ [])) rest _ at p e w x in_two
