-- No plan is cheaper than the tables. Each held result of a plan has cost at least Delivered of its set where it stands, however it came there,
-- since a route with a line more is a route. A join's operands are the parts of their union, so Joined has that join among its candidates.
use Prim.Native.Nat.{ℕ, ◌+◌, ◌^◌, ◌≤◌, ◌<◌, zero-le}
use mathlib.Core.Path.{◌≡◌, sym, ap, subst, ◌∙◌}
use mathlib.Core.Bool.{Bool, true}
use mathlib.Core.Logic.{◌⊎◌, inl, inr}
use lib.Count.{ones}
use lib.ListN.{length}
use native.Mathlib.Nat.{le_refl, add_comm, eq-or-lt_of_le}
use native.Mathlib.Omega.{arith}
use Rattle.relations.specs.Sets.{bit, Apart}
use Rattle.relations.specs.Growth.{first, second}
use Rattle.relations.specs.Trees.{Subquery}
use Rattle.relations.specs.Theorems.{Union}
use Rattle.relations.proofs.Counts.{ones_add, ones_pow, lowest_below, lowest_pow}
use Rattle.relations.proofs.Leads.{both_true}
use Rattle.relations.proofs.Unions.{union}
use Rattle.relations.proofs.Subqueries.{subqueries_law}
use Rattle.query.specs.declared.Query.{Query}
use Rattle.query.specs.Cost.{some, both, AtMost}
use Rattle.query.specs.Query.{Valid, relations_of, sites_of, home, may_join}
use Rattle.query.specs.Prices.{line_price, sending, join_price, indexed}
use Rattle.query.proofs.Prices.{join_either, qualified_cheaper, sending_open}
use Rattle.routes.specs.Routes.{carriage}
use Rattle.routes.proofs.Cheaper.{onward}
use Rattle.routes.proofs.Taken.{stays}
use Rattle.rules.specs.declared.Held.{Held}
use Rattle.rules.specs.Combine.{Combines}
use Rattle.rules.specs.Machine.{bare_of, is_bare, sent_to, links, qualifies, join_of}
use Rattle.rules.proofs.Links.{links_means}
use Rattle.rules.proofs.Steps.{MaySend, MayJoin}
use Rattle.rules.proofs.Invariants.{Ends, allowed_run}
use Rattle.rules.proofs.Kept.{Keeps, Stacks, run_kept}
use Rattle.tables.specs.Tables.{only, by_join, by_site, delivered, joined}
use Rattle.tables.specs.Written.{best_site}
use Rattle.tables.specs.Theorems.{AnyStepsLaw, CheapestLaw}
use Rattle.routes.proofs.Costs.{at_most_is, at_most_more, both_most, plus_most, number}
use Rattle.tables.proofs.Tables.{ones_some, BySite, delivered_one, delivered_within, delivered_found, joined_within}

module _ (combine : ℕ → ℕ → ℕ) (laws : Combines combine) (q : Query) (v : Valid q) where
  -- A held result: its set is a subquery, its site is listed, and its figure is no less than Delivered there.
  record Fine (h : Held) : Type 0 where
    subquery : Subquery q.joins (relations_of q) h.set
    listed : h.site < sites_of q
    bounded : AtMost (delivered combine q h.set h.site) h.figure.0

  -- A bare relation at its home.
  stands : (S k x : ℕ) → Subquery q.joins (relations_of q) S → k < sites_of q → ones S ≡ 1 → home q (only q S) ≡ k → AtMost (delivered combine q S k) x
  stands S k x s l one there =
      at_most_is (delivered combine q S k) 0 x
      (delivered_one combine q v S k s one ∙ ap (λ (a : ℕ). carriage q S a k) there ∙ stays (sending q S) (sites_of q) k l) zero-le

  -- A joined result where it was joined.
  joined_there : (S k x : ℕ) → Subquery q.joins (relations_of q) S → k < sites_of q → 1 < ones S → AtMost (joined combine q S k) x → AtMost (delivered combine q S k) x
  joined_there S k x s l more b =
      delivered_within combine q v S k k x s more l
      (at_most_more (by_site (joined combine q S) q S k k) (x + 0) x (omega arith)
      (plus_most (joined combine q S k) (carriage q S k k) x 0 b (at_most_is (carriage q S k k) 0 0 (stays (sending q S) (sites_of q) k l) zero-le)))

  -- A send from wherever it is delivered adds the price of its line: the route there and the line are a route to where it goes.
  pub sends : (S k t x y : ℕ) → Subquery q.joins (relations_of q) S → k < sites_of q → t < sites_of q → AtMost (sending q S k t) y → AtMost (delivered combine q S k) x →
      AtMost (delivered combine q S t) (x + y)
  sends S k t x y s lk lt line b = go (eq-or-lt_of_le (ones_some q v S s)) (number (delivered combine q S k) x b)
    where
      go : (1 ≡ ones S) ⊎ (1 < ones S) → (z : ℕ) × ((delivered combine q S k ≡ some z) × (z ≤ x)) → AtMost (delivered combine q S t) (x + y)
      go (inl one) there =
          let h : ℕ = home q (only q S) in
          let range = (subqueries_law q.joins (relations_of q) v.tree).range S s in
          let listed : h < sites_of q = v.homes (only q S) (lowest_below (relations_of q) S range.0 range.1) in
          rw (delivered_one combine q v S t s (sym one))
          (onward (sending q S) (sites_of q) h k t x y listed lk lt (rw (delivered_one combine q v S k s (sym one)) at b) line)
      go (inr more) (z, (is, less)) =
          let a : ℕ = best_site combine q S k in
          let site : BySite combine q v S k a z = delivered_found combine q v S k z s more is in
          let c : ℕ = site.sum.other in
          at_most_more (delivered combine q S t) (site.sum.one + (c + y)) (x + y) (omega (arith, site.sum.made))
          (delivered_within combine q v S t a (site.sum.one + (c + y)) s more site.listed
          (plus_most (joined combine q S a) (carriage q S a t) site.sum.one (c + y)
          (at_most_is (joined combine q S a) site.sum.one site.sum.one site.sum.one_is (le_refl _))
          (onward (sending q S) (sites_of q) a k t c y site.listed lk lt (at_most_is (carriage q S a k) c c site.sum.other_is (le_refl _)) line)))

  -- A join of P, with e's first relation, and R, with its second, is a candidate of Joined of their union.
  makes : (P R e k x y z : ℕ) → Union q.joins (relations_of q) P R e → e < q.joins.count → may_join q k ≡ true →
      AtMost (delivered combine q P k) x → AtMost (delivered combine q R k) y → join_price q k (indexed q P k) P (indexed q R k) R ≤ z →
      AtMost (joined combine q (P + R) k) (combine x y + z)
  unfolding by_join
  makes P R e k x y z u l may one other price =
      joined_within combine q v (P + R) k e (combine x y + z) may l
      (rw (u.within, u.second_is, u.first_is)
      (plus_most (both combine (delivered combine q P k) (delivered combine q R k)) (some (join_price q k (indexed q P k) P (indexed q R k) R)) (combine x y) z
      (both_most combine laws.mono (delivered combine q P k) (delivered combine q R k) x y one other) price))

  qualified : (h : Held) → qualifies q h ≡ true → indexed q h.set h.site ≡ true
  unfolding qualifies
  qualified h e = (both_true (is_bare h.origin) (indexed q h.set h.site) e).1

  -- A join of two results at k, either way round.
  abbrev JoinedAt : (P R k x y : ℕ) (i j : Bool) → Type 0
  JoinedAt P R k x y i j = Subquery q.joins (relations_of q) (P + R) × AtMost (joined combine q (P + R) k) (combine x y + join_price q k i P j R)

  joins_at : (P R e k x y : ℕ) (i j : Bool) → Subquery q.joins (relations_of q) P → Subquery q.joins (relations_of q) R → Apart P R → e < q.joins.count →
      may_join q k ≡ true → links q.joins e P R ≡ true → (i ≡ true → indexed q P k ≡ true) → (j ≡ true → indexed q R k ≡ true) →
      AtMost (delivered combine q P k) x → AtMost (delivered combine q R k) y → JoinedAt P R k x y i j
  joins_at P R e k x y i j p r apart l may linked qualified-p qualified-r one other = go (links_means q.joins e P R linked)
    where
      cheaper : join_price q k (indexed q P k) P (indexed q R k) R ≤ join_price q k i P j R
      cheaper = qualified_cheaper q k i (indexed q P k) P j (indexed q R k) R qualified-p qualified-r

      go : ((bit P (first q.joins e) ≡ 1) × (bit R (second q.joins e) ≡ 1)) ⊎ ((bit P (second q.joins e) ≡ 1) × (bit R (first q.joins e) ≡ 1)) →
          JoinedAt P R k x y i j
      go (inl (f, g)) =
          let u : Union q.joins (relations_of q) P R e = union q.joins (relations_of q) v.tree P R e p r apart l f g in
          (u.subquery, makes P R e k x y (join_price q k i P j R) u l may one other cheaper)
      go (inr (f, g)) =
          let u : Union q.joins (relations_of q) R P e = union q.joins (relations_of q) v.tree R P e r p (λ s. omega (arith, apart s)) l g f in
          let dear : join_price q k (indexed q R k) R (indexed q P k) P ≤ join_price q k i P j R = rw (join_either q k (indexed q R k) R (indexed q P k) P) cheaper in
          let bound = makes R P e k y x (join_price q k i P j R) u l may other one dear in
          (subst (λ (S : ℕ). Subquery q.joins (relations_of q) S) (add_comm R P) u.subquery, rw (add_comm R P, laws.comm y x) at bound)

  fine : Keeps combine q Fine
  fine = record { loads = loaded; sends = sent; joins = made }
    where
      loaded : (r : ℕ) → r < relations_of q → Fine (bare_of q r)
      loaded r l =
          record {
            subquery = (subqueries_law q.joins (relations_of q) v.tree).single r l;
            listed = v.homes r l;
            bounded =
                stands (2 ^ r) (home q r) 0 ((subqueries_law q.joins (relations_of q) v.tree).single r l) (v.homes r l) (ones_pow r)
                (ap (home q) (lowest_pow (relations_of q) r l));
          }

      sent : (t : ℕ) (h : Held) → MaySend q t h → Fine h → Fine (sent_to q t h)
      sent t h may f =
          record {
            subquery = f.subquery;
            listed = may.listed;
            bounded =
                sends h.set h.site t h.figure.0 (line_price q h.set h.site t) f.subquery f.listed may.listed
                (at_most_is (sending q h.set h.site t) _ _ (sending_open q h.set h.site t may.away may.opened) (le_refl _)) f.bounded;
          }

      made : (e : ℕ) (a b : Held) → MayJoin q e a b → Apart a.set b.set → Fine a → Fine b → Fine (join_of combine q a b)
      made e a b may apart fa fb =
          let known : e < q.joins.count = omega (arith, v.tree.joins) in
          let both_at =
          joins_at a.set b.set e b.site a.figure.0 b.figure.0 (qualifies q a) (qualifies q b) fa.subquery fb.subquery apart known may.may
          may.linked (λ s. subst (λ (k : ℕ). indexed q a.set k ≡ true) may.there (qualified a s)) (qualified b)
          (subst (λ (k : ℕ). AtMost (delivered combine q a.set k) a.figure.0) may.there fa.bounded) fb.bounded in
          record {
            subquery = both_at.0;
            listed = fb.listed;
            bounded =
                joined_there (a.set + b.set) b.site _ both_at.0 fb.listed
                (omega (arith, ones_add a.set b.set apart, ones_some q v a.set fa.subquery, ones_some q v b.set fb.subquery)) both_at.1;
          }

pub any_steps_law : AnyStepsLaw
any_steps_law combine laws q v steps c run =
    let end : Ends q (Stacks (Fine combine laws q v)) (length steps) c = run_kept combine q _ (fine combine laws q v) steps c run in
    rw (end.whole, end.delivered, end.figure) at end.kept.1.bounded

pub cheapest_law : CheapestLaw
cheapest_law combine laws q v plan c allowed = let r = allowed_run combine q plan c allowed in any_steps_law combine laws q v r.0 c r.1.1
