-- A subquery starts from the home of its one relation, at no cost, or from each site where it is joined; Delivered is the least over these with the carriage.
use Prim.Native.Nat.{ℕ, zero, suc, ◌+◌, ◌^◌, ◌<◌}
use native.Mathlib.Nat.{le_refl, le_of_suc-le-suc, eq-or-lt_of_le}
use native.Mathlib.Omega.{arith}
use mathlib.Core.Path.{◌≡◌, refl, sym, ap, subst, ◌∙◌}
use mathlib.Core.Bool.{Bool, true, false}
use mathlib.Core.Logic.{◌⊎◌, inl, inr}
use lib.Count.{ones}
use lib.Dec.{eqb}
use borrow.Author.Tests.{eq-eqb, ne_eqb, eqb-true, eqb-false}
use Rattle.relations.specs.declared.Joins.{Joins}
use Rattle.relations.specs.Sets.{bit}
use Rattle.relations.specs.Growth.{inside}
use Rattle.relations.specs.Trees.{Subquery, Tree, joins_in, join_bits}
use Rattle.relations.specs.Code.{or_none}
use Rattle.relations.proofs.Bits.{bit_none}
use Rattle.relations.proofs.Connected.{subquery_range}
use Rattle.relations.proofs.Counts.{lowest_below, ones_pos}
use Rattle.relations.proofs.JoinBits.{joins_next, bits_next, bits_inside}
use Rattle.relations.proofs.JoinCounts.{joins_count}
use Rattle.relations.proofs.Subqueries.{subqueries_law}
use Rattle.query.specs.declared.Query.{Query}
use Rattle.query.specs.Choice.{pick}
use Rattle.query.specs.Cost.{Cost, none, some, plus}
use Rattle.query.specs.Query.{Valid, relations_of, sites_of, home}
use Rattle.routes.specs.Routes.{carriage}
use Rattle.routes.specs.Least.{Best, better, best, least}
use Rattle.tables.specs.Tables.{only, by_site, delivered, joined}
use Rattle.routes.proofs.Least.{best_same}
use Rattle.tables.proofs.Tables.{ones_some, delivered_one, delivered_more}

unfoldable pub start_cost : (ℕ → ℕ → ℕ) → Query → ℕ → ℕ → Cost
start_cost combine q S k = pick (eqb (ones S) 1) (pick (eqb k (home q (only q S))) (some 0) none) (joined combine q S k)

-- The least of costs of which at most one is a number.
least_none : (f : ℕ → Cost) (m : ℕ) → ((i : ℕ) → i < m → f i ≡ none) → least f m ≡ none
unfolding best
least_none f zero h = refl
least_none f (suc m) h =
    subst (λ (c : Cost). (better c m (best f m) (least f m)).cost ≡ none) (sym (h m (le_refl _))) (least_none f m (λ i l. h i (omega arith)))

better_none : (new : Cost) (m : ℕ) (b : Best) (old : Cost) → b.cost ≡ old → old ≡ none → (better new m b old).cost ≡ new
better_none none m b old e n = e ∙ n
better_none (some c) m b none e n = refl
better_none (some c) m b (some d) e n = absurd (let lie : ◌≡◌ {A = ℕ} 0 1 = cc in omega arith)

least_one : (f : ℕ → Cost) (h m : ℕ) → h < m → ((i : ℕ) → (i ≡ h → ⊥) → f i ≡ none) → least f m ≡ f h
unfolding best
least_one f h zero l others = absurd (omega arith)
least_one f h (suc m) l others = go (eq-or-lt_of_le (le_of_suc-le-suc l)) (λ k. least_one f h m k others)
  where
    go : (h ≡ m) ⊎ (h < m) → (h < m → least f m ≡ f h) → (better (f m) m (best f m) (least f m)).cost ≡ f h
    go (inl e) before = better_none (f m) m (best f m) (least f m) refl (least_none f m (λ i k. others i (λ g. omega arith))) ∙ ap f (sym e)
    go (inr k) before = rw (others m (λ g. omega arith)) (before k)

plus_nothing : (c : Cost) → plus (some 0) c ≡ c
plus_nothing none = refl
plus_nothing (some c) = let e : 0 + c ≡ c = omega arith in ap some e

module _ (combine : ℕ → ℕ → ℕ) (q : Query) where
  -- With two relations or more it starts where it is joined.
  pub started_same : (S t : ℕ) → (ones S ≡ 1 → ⊥) → best (by_site (start_cost combine q S) q S t) (sites_of q) ≡ best (by_site (joined combine q S) q S t) (sites_of q)
  unfolding start_cost
  started_same S t more =
      best_same (by_site (start_cost combine q S) q S t) (by_site (joined combine q S) q S t) (sites_of q) (λ k m. rw (ne_eqb (ones S) 1 more))

  pub delivered_started : Valid q → (S t : ℕ) → Subquery q.joins (relations_of q) S → delivered combine q S t ≡ least (by_site (start_cost combine q S) q S t) (sites_of q)
  unfolding start_cost
  delivered_started v S t s = go (eq-or-lt_of_le (ones_some q v S s))
    where
      range : (0 < S) × (S < 2 ^ relations_of q)
      range = subquery_range q.joins (relations_of q) S s

      go : (1 ≡ ones S) ⊎ (1 < ones S) → delivered combine q S t ≡ least (by_site (start_cost combine q S) q S t) (sites_of q)
      go (inl one) =
          let h : ℕ = home q (only q S) in
          let listed : h < sites_of q = v.homes (only q S) (lowest_below (relations_of q) S range.0 range.1) in
          let here : by_site (start_cost combine q S) q S t h ≡ carriage q S h t = rw (eq-eqb (ones S) 1 (sym one), eq-eqb h h refl) (plus_nothing (carriage q S h t)) in
          delivered_one combine q v S t s (sym one)
          ∙ sym (least_one (by_site (start_cost combine q S) q S t) h (sites_of q) listed (λ i other. rw (eq-eqb (ones S) 1 (sym one), ne_eqb i h other)) ∙ here)
      go (inr more) =
          delivered_more combine q v S t s more ∙ ap (λ (b : Best). b.cost) (sym (started_same S t (λ e. omega arith)))

-- A subquery has one relation exactly where it has no join.
no_bits : (J : Joins) (S m : ℕ) → joins_in J S m ≡ 0 → join_bits J S m ≡ 0
unfolding join_bits
no_bits J S zero h = refl
no_bits J S (suc m) h = omega (arith, bits_next J S m, no_bits J S m (omega (arith, joins_next J S m)), go (inside J S m) (omega (arith, joins_next J S m)))
  where
    go : (d : Bool) → or_none d 1 ≡ 0 → or_none d (2 ^ m) ≡ 0
    go true e = absurd (omega arith)
    go false e = refl

module _ (J : Joins) (n : ℕ) (tree : Tree J n) (S : ℕ) (s : Subquery J n S) where
  pub one_of_none : join_bits J S J.count ≡ 0 → ones S ≡ 1
  one_of_none e = go (eq-or-lt_of_le (ones_pos S (subquery_range J n S s).0))
    where
      go : (1 ≡ ones S) ⊎ (1 < ones S) → ones S ≡ 1
      go (inl one) = sym one
      go (inr more) =
          let found = (subqueries_law J n tree).some_join S s more in
          let held : bit (join_bits J S J.count) found.0 ≡ 1 = bits_inside J S J.count found.0 found.1 ∙ rw found.2 in
          absurd (omega (arith, held, bit_none found.0, ap (λ (x : ℕ). bit x found.0) e))

  pub none_is_one : eqb (join_bits J S J.count) 0 ≡ eqb (ones S) 1
  none_is_one = go (eqb (ones S) 1) refl
    where
      go : (o : Bool) → eqb (ones S) 1 ≡ o → eqb (join_bits J S J.count) 0 ≡ o
      go true one = eq-eqb (join_bits J S J.count) 0 (no_bits J S J.count (omega (arith, joins_count J n tree S s, eqb-true (ones S) 1 one)))
      go false more = ne_eqb (join_bits J S J.count) 0 (λ e. eqb-false (ones S) 1 more (one_of_none e))
