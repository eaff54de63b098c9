-- The route that is taken: it leads where it should over listed sites, at the cheapest cost, with the fewest sends; no send where it stays; and no more
-- than the dearest line a send.
use Prim.Native.Nat.{ℕ, zero, suc, ◌*◌, ◌≤◌, ◌<◌, zero-le}
use mathlib.Core.Path.{◌≡◌, refl, sym, ap, ◌∙◌}
use lib.ListN.{length}
use native.Mathlib.Nat.{le_refl, suc-mul}
use native.Mathlib.Omega.{arith}
use borrow.Author.Tests.{le-ltb}
use Rattle.query.specs.declared.Query.{Query}
use Rattle.query.specs.Cost.{Cost, none, some}
use Rattle.query.specs.Query.{Valid, sites_of}
use Rattle.query.specs.Prices.{sending, dearest_line}
use Rattle.query.proofs.Prices.{sending_most}
use Rattle.routes.specs.Least.{Best, better, best, least}
use Rattle.routes.specs.Routes.{route_cost, last_site, by_sends, cheapest_route, fewest_sends, next_site, stops, carriage, dearest_carriage}
use Rattle.routes.specs.Theorems.{AllBelow, RouteTaken}
use Rattle.routes.proofs.Costs.{at_most_is, number}
use Rattle.routes.proofs.Least.{least_most, least_found}
use Rattle.routes.proofs.Sends.{none_sent, stays_there, first_send}

-- Where it stays it costs nothing.
pub stays : (line : ℕ → ℕ → Cost) (s k : ℕ) → k < s → cheapest_route line s k k ≡ some 0
unfolding cheapest_route
stays line s k l =
    let least-is = number (least (λ i. by_sends line s i k k) s) 0 (least_most (λ i. by_sends line s i k k) s 0 0 (omega arith) (at_most_is (by_sends line s 0 k k) 0 0 (stays_there line s k) (le_refl _))) in
    let nothing : least-is.0 ≡ 0 = omega (arith, least-is.1.1) in
    least-is.1.0 ∙ ap some nothing

-- The route's sends: as many as the fewest, fewer than s, and together they cost the cheapest.
pub fewest : (line : ℕ → ℕ → Cost) (s k t c : ℕ) → cheapest_route line s k t ≡ some c →
    (fewest_sends line s k t < s) × (by_sends line s (fewest_sends line s k t) k t ≡ some c)
unfolding cheapest_route fewest_sends
fewest line s k t c e = least_found (λ i. by_sends line s i k t) s c e

pub stops_long : (line : ℕ → ℕ → Cost) (s i k t : ℕ) → length (stops line s i k t) ≡ i
unfolding stops
stops_long line s zero k t = refl
stops_long line s (suc i) k t = ap suc (stops_long line s i (next_site line s i k t) t)

-- They lead to t, over listed sites.
stops_lead : (line : ℕ → ℕ → Cost) (s i k t c : ℕ) → by_sends line s i k t ≡ some c →
    AllBelow s (stops line s i k t) × ((last_site k (stops line s i k t) ≡ t) × (route_cost line k (stops line s i k t) ≡ some c))
unfolding stops route_cost
stops_lead line s zero k t c e = let w = none_sent line s k t c e in (tt, (w.0, ap some (sym w.1)))
stops_lead line s (suc i) k t c e =
    let way = first_send line s t i k c e in
    let m : ℕ = next_site line s i k t in
    let on = stops_lead line s i m t way.1.other way.1.other_is in
    ((way.0, on.0), (on.1.0, rw (way.1.one_is, on.1.1) (ap some (sym way.1.made))))

pub route_taken : RouteTaken
route_taken line s k t c e =
    let found = fewest line s k t c e in
    let i : ℕ = fewest_sends line s k t in
    let lead = stops_lead line s i k t c found.1 in
    record {
      listed = lead.0;
      there = lead.1.0;
      cost = lead.1.1;
      sends = stops_long line s i k t;
      few = omega (arith, found.0, stops_long line s i k t);
    }

-- Where it stays, no send is due.
best_nothing : (f : ℕ → Cost) (m : ℕ) → f 0 ≡ some 0 → best f (suc m) ≡ record { cost = some 0; at = 0 }
unfolding best
best_nothing f zero e = rw e
best_nothing f (suc m) e = rw (best_nothing f m e) (go (f (suc m)))
  where
    go : (c : Cost) → better c (suc m) (record { cost = some 0; at = 0 }) (some 0) ≡ record { cost = some 0; at = 0 }
    go none = refl
    go (some c) = rw (le-ltb c 0 zero-le)

pub stays_unsent : (line : ℕ → ℕ → Cost) (s k : ℕ) → k < s → fewest_sends line s k k ≡ 0
unfolding fewest_sends
stays_unsent line zero k l = absurd (omega arith)
stays_unsent line (suc s) k l = ap (λ (b : Best). b.at) (best_nothing (λ i. by_sends line (suc s) i k k) s (stays_there line (suc s) k))

-- A route whose sends each cost at most d costs at most d a send.
pub sends_most : (line : ℕ → ℕ → Cost) (s d : ℕ) → ((a b c : ℕ) → line a b ≡ some c → c ≤ d) → (i k t c : ℕ) → by_sends line s i k t ≡ some c → c ≤ i * d
sends_most line s d most zero k t c e = omega (arith, (none_sent line s k t c e).1)
sends_most line s d most (suc i) k t c e =
    let way = first_send line s t i k c e in
    let m : ℕ = next_site line s i k t in
    omega (arith, suc-mul i d, way.1.made, most k m way.1.one way.1.one_is, sends_most line s d most i m t way.1.other way.1.other_is)

-- So no carriage is above the dearest one.
pub carriage_most : (q : Query) → Valid q → (P k t c : ℕ) → carriage q P k t ≡ some c → c ≤ dearest_carriage
carriage_most q v P k t c e =
    let found = fewest (sending q P) (sites_of q) k t c e in
    let i : ℕ = fewest_sends (sending q P) (sites_of q) k t in
    let few : i ≤ 7 = omega (arith, found.0, v.sites_most) in
    omega (arith, sends_most (sending q P) (sites_of q) dearest_line (λ a b x h. sending_most q v P a b x h) i k t c found.1)
