-- No route of lines is cheaper than the cheapest of fewer sends than there are sites. A route that is cheaper than all of fewer sends goes through
-- a site more than it has sends: each site on its way is reached from there on for no more than the whole, by no more sends; so none comes twice.
use Prim.Native.Nat.{ℕ, zero, suc, ◌+◌, ◌^◌, ◌≤◌, ◌<◌, zero-le}
use mathlib.Core.Path.{◌≡◌, refl, sym, subst}
use mathlib.Core.Logic.{◌⊎◌, inl, inr}
use mathlib.Core.List.{List, [], ◌∷◌}
use lib.Count.{ones, ones-ones}
use lib.ListN.{length}
use native.Mathlib.Nat.{le_refl}
use native.Mathlib.Decide.{dec_lt}
use native.Mathlib.Omega.{arith}
use Rattle.relations.specs.Sets.{bit, all}
use Rattle.relations.proofs.Bits.{bit_le, bit_all, pow_cases, more_cases}
use Rattle.relations.proofs.Counts.{ones_mono, ones_pow, ones_more}
use Rattle.query.specs.Cost.{Cost, some, plus, AtMost}
use Rattle.routes.specs.Least.{least, lowest_at}
use Rattle.routes.specs.Routes.{route_cost, last_site, by_sends, cheapest_route, fewest_sends, next_site}
use Rattle.routes.specs.Theorems.{AllBelow, NoneCheaper, NoneShorter, ToAndFro, Onward}
use Rattle.routes.proofs.Costs.{at_most_is, at_most_more, Two, both_found, number, at_most_or}
use Rattle.routes.proofs.Least.{least_most, least_found, lowest_most, some_candidate, least_longer}
use Rattle.routes.proofs.Sends.{none_sent, stays_there, by_way, first_send}

module _ (line : ℕ → ℕ → Cost) (s t : ℕ) where
  -- The sites that a route of i sends for x goes through: one more than sends, and from each of them t is reached for no more by no more sends.
  record Through (i x : ℕ) : Type 0 where
    sites : ℕ
    count : ones sites ≡ suc i
    listed : (u : ℕ) → bit sites u ≡ 1 → u < s
    each : (u : ℕ) → bit sites u ≡ 1 → AtMost (least (λ j. by_sends line s j u t) (suc i)) x

  -- Without a send, that is the site itself.
  starts_through : (k x : ℕ) → k < s → by_sends line s 0 k t ≡ some x → Through 0 x
  starts_through k x l e =
      record {
        sites = 2 ^ k;
        count = ones_pow k;
        listed = λ u h. alone (λ (v : ℕ). v < s) u h l;
        each = λ u h.
            alone (λ (v : ℕ). AtMost (least (λ j. by_sends line s j v t) 1) x) u h
            (least_most (λ j. by_sends line s j k t) 1 0 x (le_refl _) (at_most_is (by_sends line s 0 k t) x x e (le_refl _)));
      }
    where
      alone : (P : ℕ → Type 0) (u : ℕ) → bit (2 ^ k) u ≡ 1 → P k → P u
      alone P u h p = go (pow_cases k u)
        where
          go : ((k ≡ u) × (bit (2 ^ k) u ≡ 1)) ⊎ (bit (2 ^ k) u ≡ 0) → P u
          go (inl (e, one)) = subst P e p
          go (inr other) = absurd (omega arith)

  -- A route that is cheaper than all of fewer sends: so is what is left of it after its first send, and its first site is none of the others.
  module _ (i k x : ℕ) (l : k < s) (e : by_sends line s (suc i) k t ≡ some x) (fresh : AtMost (least (λ j. by_sends line s j k t) (suc i)) x → ⊥) where
    way : (next_site line s i k t < s) × Two ◌+◌ (line k (next_site line s i k t)) (by_sends line s i (next_site line s i k t) t) x
    way = first_send line s t i k x e

    rest_fresh : AtMost (least (λ j. by_sends line s j (next_site line s i k t) t) i) way.1.other → ⊥
    rest_fresh h =
        let m : ℕ = next_site line s i k t in
        let there = some_candidate (λ j. by_sends line s j m t) i way.1.other h in
        fresh
        (least_most (λ j. by_sends line s j k t) (suc i) (suc there.0) x (omega (arith, there.1.0))
        (at_most_more (by_sends line s (suc there.0) k t) (way.1.one + way.1.other) x (omega (arith, way.1.made))
        (by_way line s t there.0 k m way.1.one way.1.other way.0 (at_most_is (line k m) way.1.one way.1.one way.1.one_is (le_refl _)) there.1.1)))

    goes_through : Through i way.1.other → Through (suc i) x
    goes_through before =
        record {
          sites = before.sites + 2 ^ k;
          count = omega (arith, ones_more before.sites k new, before.count);
          listed = λ u h. elim (more_cases before.sites k new u h) [ inl old ↦ before.listed u old | inr same ↦ subst (λ (v : ℕ). v < s) same l ];
          each = λ u h. at u (more_cases before.sites k new u h);
        }
      where
        dearer : (u : ℕ) → AtMost (least (λ j. by_sends line s j u t) (suc i)) way.1.other → AtMost (least (λ j. by_sends line s j u t) (suc i)) x
        dearer u h = at_most_more (least (λ j. by_sends line s j u t) (suc i)) way.1.other x (omega (arith, way.1.made)) h

        new : bit before.sites k ≡ 0
        new = go (bit before.sites k) refl (bit_le before.sites k)
          where
            go : (n : ℕ) → bit before.sites k ≡ n → n ≤ 1 → n ≡ 0
            go zero e h = refl
            go (suc zero) e h = absurd (fresh (dearer k (before.each k e)))
            go (suc (suc n)) e h = absurd (omega arith)

        at : (u : ℕ) → (bit before.sites u ≡ 1) ⊎ (k ≡ u) → AtMost (least (λ j. by_sends line s j u t) (suc (suc i))) x
        at u (inl old) = least_longer (λ j. by_sends line s j u t) (suc i) (suc (suc i)) x (omega arith) (dearer u (before.each u old))
        at u (inr same) =
            subst (λ (v : ℕ). AtMost (least (λ j. by_sends line s j v t) (suc (suc i))) x) same
            (least_most (λ j. by_sends line s j k t) (suc (suc i)) (suc i) x (le_refl _) (at_most_is (by_sends line s (suc i) k t) x x e (le_refl _)))

  through : (i k x : ℕ) → k < s → by_sends line s i k t ≡ some x → (AtMost (least (λ j. by_sends line s j k t) i) x → ⊥) → Through i x
  through zero k x l e fresh = starts_through k x l e
  through (suc i) k x l e fresh =
      goes_through i k x l e fresh
      (through i (next_site line s i k t) (way i k x l e fresh).1.other (way i k x l e fresh).0 (way i k x l e fresh).1.other_is (rest_fresh i k x l e fresh))

  -- So it has fewer sends than there are sites.
  through_few : (i x : ℕ) → Through i x → i < s
  through_few i x r =
      omega (arith, r.count, ones_mono r.sites (all s) (λ u. within u (bit r.sites u) refl (bit_le r.sites u)), ones-ones s)
    where
      within : (u n : ℕ) → bit r.sites u ≡ n → n ≤ 1 → bit r.sites u ≤ bit (all s) u
      within u zero e h = omega arith
      within u (suc zero) e h = omega (arith, bit_all s u (r.listed u e))
      within u (suc (suc n)) e h = absurd (omega arith)

  -- A route of any number of sends is no cheaper than the cheapest of fewer than s.
  abbrev Cheapest : ℕ → ℕ → Type 0
  Cheapest k x = AtMost (least (λ j. by_sends line s j k t) s) x

  none_cheaper_up_to : (n i k x : ℕ) → i < n → k < s → AtMost (by_sends line s i k t) x → Cheapest k x
  none_cheaper_up_to zero i k x l h at = absurd (omega arith)
  none_cheaper_up_to (suc n) i k x l h at = go (number (by_sends line s i k t) x at) (λ j y less. none_cheaper_up_to n j k y (omega arith) h)
    where
      go : (y : ℕ) × ((by_sends line s i k t ≡ some y) × (y ≤ x)) → ((j y : ℕ) → j < i → AtMost (by_sends line s j k t) y → Cheapest k y) → Cheapest k x
      go (y, (is, le)) fewer = at_most_more (least (λ j. by_sends line s j k t) s) y x le (elim (at_most_or (least (λ j. by_sends line s j k t) i) y) [
        | inl cheaper ↦ (let there = some_candidate (λ j. by_sends line s j k t) i y cheaper in fewer there.0 y there.1.0 there.1.1)
        | inr fresh ↦ least_most (λ j. by_sends line s j k t) s i y (through_few i y (through i k y h is fresh)) (at_most_is (by_sends line s i k t) y y is (le_refl _))
      ])

-- A route is one of its number of sends.
by_route : (line : ℕ → ℕ → Cost) (s k : ℕ) (ms : List ℕ) (x : ℕ) → AllBelow s ms → AtMost (route_cost line k ms) x →
    AtMost (by_sends line s (length ms) k (last_site k ms)) x
unfolding route_cost
by_route line s k [] x below h = at_most_is (by_sends line s 0 k k) 0 x (stays_there line s k) zero-le
by_route line s k (m ∷ ms) x below h =
    let is = number (plus (line k m) (route_cost line m ms)) x h in
    let sum = both_found ◌+◌ (line k m) (route_cost line m ms) is.0 is.1.0 in
    at_most_more (by_sends line s (suc (length ms)) k (last_site m ms)) (sum.one + sum.other) x (omega (arith, sum.made, is.1.1))
    (by_way line s (last_site m ms) (length ms) k m sum.one sum.other below.0
    (at_most_is (line k m) sum.one sum.one sum.one_is (le_refl _))
    (by_route line s m ms sum.other below.1 (at_most_is (route_cost line m ms) sum.other sum.other sum.other_is (le_refl _))))

pub none_cheaper : NoneCheaper
unfolding cheapest_route
none_cheaper line s k ms x l below h = none_cheaper_up_to line s (last_site k ms) (suc (length ms)) (length ms) k x (le_refl _) l (by_route line s k ms x below h)

pub none_shorter : NoneShorter
unfolding cheapest_route fewest_sends
none_shorter line s k ms c l below is h = go (dec_lt (length ms) s)
  where
    go : Dec (length ms < s) → lowest_at (λ i. by_sends line s i k (last_site k ms)) s ≤ length ms
    go (yes few) = lowest_most (λ i. by_sends line s i k (last_site k ms)) s (length ms) c few is (by_route line s k ms c below h)
    go (no many) = omega (arith, (least_found (λ i. by_sends line s i k (last_site k ms)) s c is).0)

-- A send more at the end.
longer : (line : ℕ → ℕ → Cost) (s i k m t x y : ℕ) → t < s → AtMost (by_sends line s i k m) x → AtMost (line m t) y → AtMost (by_sends line s (suc i) k t) (x + y)
longer line s zero k m t x y l h g =
    let is = number (by_sends line s 0 k m) x h in
    let same : k ≡ m = (none_sent line s k m is.0 is.1.0).0 in
    at_most_more (by_sends line s 1 k t) (y + 0) (x + y) (omega arith)
    (by_way line s t 0 k t y 0 l (subst (λ (a : ℕ). AtMost (line a t) y) (sym same) g) (at_most_is (by_sends line s 0 t t) 0 0 (stays_there line s t) (le_refl _)))
longer line s (suc i) k m t x y l h g =
    let is = number (by_sends line s (suc i) k m) x h in
    let way = first_send line s m i k is.0 is.1.0 in
    let n : ℕ = next_site line s i k m in
    let a : ℕ = way.1.one in
    let b : ℕ = way.1.other in
    at_most_more (by_sends line s (suc (suc i)) k t) (a + (b + y)) (x + y) (omega (arith, way.1.made, is.1.1))
    (by_way line s t (suc i) k n a (b + y) way.0 (at_most_is (line k n) a a way.1.one_is (le_refl _))
    (longer line s i n m t b y l (at_most_is (by_sends line s i n m) b b way.1.other_is (le_refl _)) g))

pub onward : Onward
unfolding cheapest_route
onward line s k m t x y lk lm lt h g =
    let there = some_candidate (λ i. by_sends line s i k m) s x h in
    none_cheaper_up_to line s t (suc (suc there.0)) (suc there.0) k (x + y) (le_refl _) lk (longer line s there.0 k m t x y lt there.1.1 g)

-- Used where a route has more sends than there are sites.
pub to_and_fro : (line : ℕ → ℕ → Cost) → ToAndFro line
to_and_fro line = record { no_cheaper = λ x h. none_cheaper line 2 0 tour x (omega arith) listed h; no_shorter = λ c e h. none_shorter line 2 0 tour c (omega arith) listed e h }
  where
    tour : List ℕ
    tour = 1 ∷ 0 ∷ 1 ∷ 0 ∷ 1 ∷ []

    listed : AllBelow 2 tour
    listed = (omega arith, (omega arith, (omega arith, (omega arith, (omega arith, tt)))))
