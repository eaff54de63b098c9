-- Written steps that deliver a set at a site: what it means, how the sends that are due complete them, and the load of one relation.
use Prim.Native.Nat.{ℕ, zero, suc, ◌+◌, ◌*◌, ◌^◌, ◌≤◌, ◌<◌}
use mathlib.Core.Path.{◌≡◌, refl, sym, ap, subst, ◌∙◌}
use mathlib.Core.Bool.{false}
use mathlib.Core.List.{List, [], ◌∷◌, ◌++◌}
use lib.Count.{ones}
use lib.ListN.{length, length-append}
use native.Mathlib.Nat.{zero-add}
use native.Mathlib.Omega.{arith}
use borrow.Author.Tests.{eq-eqb, ne_eqb}
use Rattle.relations.specs.Sets.{Apart}
use Rattle.relations.specs.Trees.{Subquery}
use Rattle.relations.proofs.Bits.{bit_pow}
use Rattle.relations.proofs.Counts.{single_of_ones, lowest_below}
use Rattle.relations.proofs.Subqueries.{subqueries_law}
use Rattle.query.specs.declared.Query.{Query}
use Rattle.query.specs.Cost.{some}
use Rattle.query.specs.Query.{Valid, relations_of, sites_of, home}
use Rattle.query.specs.Prices.{line_price, sending, indexed}
use Rattle.query.proofs.Prices.{sending_is}
use Rattle.routes.specs.Routes.{by_sends, fewest_sends, next_site, stops, carriage, route}
use Rattle.routes.proofs.Sends.{none_sent, first_send}
use Rattle.routes.proofs.Taken.{fewest, route_taken, stays_unsent}
use Rattle.rules.specs.Machine.{Step}
use Rattle.rules.specs.declared.Origin.{Origin}
use Rattle.rules.specs.declared.Origin.TheVariants.{Bare, Sent}
use Rattle.rules.specs.declared.Held.{Held}
use Rattle.rules.specs.Machine.{Machine, Outcome, went, charge, qualifies, step}
use Rattle.rules.proofs.Runs.{ran, load_goes, send_goes, ran_then, ran_one}
use Rattle.tables.specs.Tables.{only, delivered}
use Rattle.tables.specs.Written.{load_step, send_steps, sends_due}
use Rattle.tables.proofs.Tables.{delivered_one}

abbrev pub held_at : ℕ → ℕ → Origin → ℕ → Held
held_at S t o c = record { set = S; site = t; origin = o; figure = charge c }

-- Run on any stack, with nothing of S loaded, the steps xs put S on top, at t, at figure c.
abbrev pub Puts : (ℕ → ℕ → ℕ) → Query → List Step → ℕ → ℕ → Origin → ℕ → Type 0
Puts combine q xs S t o c =
    (m : Machine) → Apart m.loaded S → ran combine q xs m ≡ went (record { loaded = m.loaded + S; stack = held_at S t o c ∷ m.stack })

-- They do so, the result qualifies just where the tables say so, and there are at most 16 steps a relation less 8.
pub record Delivers (combine : ℕ → ℕ → ℕ) (q : Query) (xs : List Step) (S t c : ℕ) : Type 0 where
  pub origin : Origin
  pub qualified : qualifies q (held_at S t origin c) ≡ indexed q S t
  pub puts : Puts combine q xs S t origin c
  pub long : 1 ≤ length xs
  pub short : length xs + 8 ≤ 16 * ones S

-- Two relations or more do not qualify, nor does one away from its home.
pub more_unindexed : (q : Query) (S k : ℕ) → 1 < ones S → indexed q S k ≡ false
unfolding indexed
more_unindexed q S k more = rw (ne_eqb (ones S) 1 (λ e. omega arith))

away_unindexed : (q : Query) (S k : ℕ) → ones S ≡ 1 → (home q (only q S) ≡ k → ⊥) → indexed q S k ≡ false
unfolding indexed
away_unindexed q S k one away = rw (eq-eqb (ones S) 1 one, ne_eqb (home q (only q S)) k away)

-- What a result is after so many sends.
abbrev after : ℕ → Origin → Origin
after zero o = o
after (suc i) o = Sent

still_sent : (i : ℕ) → after i Sent ≡ Sent
still_sent zero = refl
still_sent (suc i) = refl

send_steps_long : (ms : List ℕ) → length (send_steps ms) ≡ length ms
send_steps_long [] = refl
send_steps_long (m ∷ ms) = ap suc (send_steps_long ms)

module _ (combine : ℕ → ℕ → ℕ) (q : Query) where
  abbrev on : ℕ → List Held → Held → Machine
  on L hs h = record { loaded = L; stack = h ∷ hs }

  -- The sends of a route, one after the other, take the top from k to t at the route's cost.
  route_runs : (S i k t x y : ℕ) (o : Origin) (L : ℕ) (hs : List Held) → by_sends (sending q S) (sites_of q) i k t ≡ some y →
      ran combine q (send_steps (stops (sending q S) (sites_of q) i k t)) (on L hs (held_at S k o x)) ≡ went (on L hs (held_at S t (after i o) (x + y)))
  unfolding ran stops
  route_runs S zero k t x y o L hs e = there (none_sent (sending q S) (sites_of q) k t y e)
    where
      there : (k ≡ t) × (y ≡ 0) → ◌≡◌ {A = Outcome} (went (on L hs (held_at S k o x))) (went (on L hs (held_at S t o (x + y))))
      there (same, free) = let sum : x + y ≡ x = omega arith in rw (same, sum)
  route_runs S (suc i) k t x y o L hs e =
      let way = first_send (sending q S) (sites_of q) t i k y e in
      let m : ℕ = next_site (sending q S) (sites_of q) i k t in
      let one = sending_is q S k m way.1.one way.1.one_is in
      let moved : step combine q 2 m (on L hs (held_at S k o x)) ≡ went (on L hs (held_at S m Sent (x + line_price q S k m))) =
      send_goes combine q m L (held_at S k o x) hs (record { listed = way.0; away = one.away; opened = one.opened }) in
      rw moved
      (route_runs S i m t (x + line_price q S k m) way.1.other Sent L hs way.1.other_is
      ∙ figures (x + line_price q S k m + way.1.other) (x + y) (omega (arith, way.1.made, one.price)))
    where
      figures : (a b : ℕ) → a ≡ b → ◌≡◌ {A = Outcome} (went (on L hs (held_at S t (after i Sent) a))) (went (on L hs (held_at S t Sent b)))
      figures a b e = rw (still_sent i, e)

  -- A result that stands at k is delivered at t by the sends that are due. A route has at most seven.
  pub due : sites_of q ≤ 8 → (xs : List Step) (S k t x y : ℕ) (o : Origin) → Puts combine q xs S k o x → qualifies q (held_at S k o x) ≡ indexed q S k →
      ((k ≡ t → ⊥) → indexed q S t ≡ false) → k < sites_of q → carriage q S k t ≡ some y → 1 ≤ length xs → length xs + 15 ≤ 16 * ones S →
      Delivers combine q (xs ++ sends_due q S k t) S t (x + y)
  unfolding qualifies
  due sites xs S k t x y o puts qualified unindexed listed price long short =
      record {
        origin = after n o;
        qualified = still n refl found.1;
        puts = λ m apart.
            ran_then combine q xs (sends_due q S k t) m (record { loaded = m.loaded + S; stack = held_at S k o x ∷ m.stack }) (puts m apart)
            ∙ route_runs S n k t x y o (m.loaded + S) m.stack found.1;
        long = omega (arith, lengths);
        short = omega (arith, lengths, (route_taken (sending q S) (sites_of q) k t y price).few, send_steps_long (route q S k t));
      }
    where
      n : ℕ
      n = fewest_sends (sending q S) (sites_of q) k t

      found : (n < sites_of q) × (by_sends (sending q S) (sites_of q) n k t ≡ some y)
      found = fewest (sending q S) (sites_of q) k t y price

      lengths : length (xs ++ sends_due q S k t) ≡ length xs + length (sends_due q S k t)
      lengths = length-append xs (sends_due q S k t)

      elsewhere : (i : ℕ) → n ≡ suc i → k ≡ t → ⊥
      elsewhere i e same =
          omega (arith, e, subst (λ (u : ℕ). fewest_sends (sending q S) (sites_of q) k u ≡ 0) same (stays_unsent (sending q S) (sites_of q) k listed))

      still : (i : ℕ) → n ≡ i → by_sends (sending q S) (sites_of q) n k t ≡ some y → qualifies q (held_at S t (after i o) (x + y)) ≡ indexed q S t
      still zero e none =
          let same : k ≡ t = (none_sent (sending q S) (sites_of q) k t y (rw e at none)).0 in
          rw same at qualified
      still (suc i) e none = sym (unindexed (elsewhere i e))

  loads : (r : ℕ) → r < relations_of q → Puts combine q (load_step r ∷ []) (2 ^ r) (home q r) Bare 0
  loads r l m apart =
      ran_one combine q (load_step r) m (record { loaded = m.loaded + 2 ^ r; stack = held_at (2 ^ r) (home q r) Bare 0 ∷ m.stack })
      (load_goes combine q r m (record { known = l; fresh = omega (arith, apart r, bit_pow r) }))

  -- One relation: the load, then the sends that are due.
  pub delivers_one : Valid q → (S t c : ℕ) → Subquery q.joins (relations_of q) S → ones S ≡ 1 → delivered combine q S t ≡ some c →
      Delivers combine q (load_step (only q S) ∷ sends_due q S (home q (only q S)) t) S t c
  unfolding qualifies
  delivers_one v S t c s one e =
      let range = (subqueries_law q.joins (relations_of q) v.tree).range S s in
      let r : ℕ = only q S in
      let whole : S ≡ 2 ^ r = single_of_ones (relations_of q) S range.1 one in
      let puts : Puts combine q (load_step r ∷ []) S (home q r) Bare 0 =
      subst (λ (Z : ℕ). Puts combine q (load_step r ∷ []) Z (home q r) Bare 0) (sym whole) (loads r (lowest_below (relations_of q) S range.0 range.1)) in
      subst (λ (z : ℕ). Delivers combine q (load_step r ∷ sends_due q S (home q r) t) S t z) (zero-add c)
      (due v.sites_most (load_step r ∷ []) S (home q r) t 0 c Bare puts refl (λ away. away_unindexed q S t one away)
      (v.homes r (lowest_below (relations_of q) S range.0 range.1))
      (sym (delivered_one combine q v S t s one) ∙ e) (omega arith) (omega arith))
