-- The tables' own equations. With at least as many rounds as relations the number of rounds does not matter, since the parts of a subquery
-- have fewer relations; so each table is given by the other, each candidate bounds it, and a number in it comes from its best candidate.
use Prim.Native.Nat.{ℕ, zero, suc, ◌+◌, ◌≤◌, ◌<◌}
use mathlib.Core.Path.{◌≡◌, refl, sym, ap, fun_ext, ◌∙◌}
use mathlib.Core.Bool.{Bool, true, false}
use lib.Count.{ones, ones-le}
use native.Mathlib.Omega.{arith}
use borrow.Author.Tests.{eq-eqb, ne_eqb}
use Rattle.relations.specs.Growth.{inside}
use Rattle.relations.specs.Trees.{Subquery}
use Rattle.relations.specs.Splits.{Split}
use Rattle.relations.proofs.Counts.{ones_pos}
use Rattle.relations.proofs.Splits.{grown_parts, grown_split, Smaller, split_smaller}
use Rattle.relations.proofs.Subqueries.{subqueries_law}
use Rattle.query.specs.declared.Query.{Query}
use Rattle.query.specs.Choice.{pick}
use Rattle.query.specs.Cost.{Cost, none, some, both, plus, AtMost}
use Rattle.query.specs.Query.{Valid, relations_of, sites_of, home, may_join}
use Rattle.query.specs.Prices.{join_price, indexed}
use Rattle.routes.specs.Routes.{carriage}
use Rattle.routes.specs.Least.{Best, least}
use Rattle.tables.specs.Tables.{first_part, other_part, only, by_join, joined_by, by_site, delivered_by, delivered_up_to, delivered, joined}
use Rattle.tables.specs.Written.{best_site, best_join}
use Rattle.tables.specs.Theorems.{DeliveredIs}
use Rattle.routes.proofs.Costs.{Two, both_found, some_same, picked}
use Rattle.routes.proofs.Least.{least_most, least_found, best_same}

-- A subquery has at least one relation and at most all.
pub ones_some : (q : Query) → Valid q → (S : ℕ) → Subquery q.joins (relations_of q) S → 0 < ones S
ones_some q v S s = ones_pos S ((subqueries_law q.joins (relations_of q) v.tree).range S s).0

pub ones_most : (q : Query) → Valid q → (S : ℕ) → Subquery q.joins (relations_of q) S → ones S ≤ relations_of q
ones_most q v S s = ones-le (relations_of q) S ((subqueries_law q.joins (relations_of q) v.tree).range S s).1

module _ (combine : ℕ → ℕ → ℕ) (q : Query) (v : Valid q) where
  abbrev SubqueryHere : ℕ → Type 0
  SubqueryHere S = Subquery q.joins (relations_of q) S

  -- Joined of S asks Delivered of the parts of S alone.
  by_join_same : (D E : ℕ → ℕ → Cost) (S k e : ℕ) → SubqueryHere S → e < q.joins.count → ((P : ℕ) → SubqueryHere P → ones P < ones S → D P k ≡ E P k) →
      by_join combine D q S k e ≡ by_join combine E q S k e
  unfolding by_join
  by_join_same D E S k e s l same = go (inside q.joins S e) refl
    where
      price : Cost
      price = some (join_price q k (indexed q (first_part q S e) k) (first_part q S e) (indexed q (other_part q S e) k) (other_part q S e))

      go : (b : Bool) → inside q.joins S e ≡ b →
          pick b (plus (both combine (D (first_part q S e) k) (D (other_part q S e) k)) price) none
          ≡ pick b (plus (both combine (E (first_part q S e) k) (E (other_part q S e) k)) price) none
      go true within =
          let parts = grown_split q.joins (relations_of q) v.tree S e s l within in
          let smaller = split_smaller q.joins (relations_of q) S e _ parts in
          rw (same (first_part q S e) parts.first_part smaller.first_fewer, same (other_part q S e) parts.second_part smaller.second_fewer)
      go false within = refl

  joined_same : (D E : ℕ → ℕ → Cost) (S k : ℕ) → SubqueryHere S → ((P : ℕ) → SubqueryHere P → ones P < ones S → D P k ≡ E P k) →
      joined_by combine D q S k ≡ joined_by combine E q S k
  unfolding joined_by
  joined_same D E S k s same =
      ap (λ (b : Best). pick (may_join q k) b.cost none)
      (best_same (by_join combine D q S k) (by_join combine E q S k) q.joins.count (λ e l. by_join_same D E S k e s l same))

  -- Once it is enough, the number of rounds does not matter.
  rounds_same : (f g S t : ℕ) → SubqueryHere S → ones S ≤ f → ones S ≤ g → delivered_up_to combine q f S t ≡ delivered_up_to combine q g S t
  unfolding delivered_up_to
  rounds_same zero g S t s l m = absurd (omega (arith, ones_some q v S s))
  rounds_same (suc f) zero S t s l m = absurd (omega (arith, ones_some q v S s))
  rounds_same (suc f) (suc g) S t s l m =
      ap (λ (J : ℕ → Cost). delivered_by J q S t)
      (fun_ext (λ k. joined_same (delivered_up_to combine q f) (delivered_up_to combine q g) S k s
      (λ P p fewer. rounds_same f g P k p (omega arith) (omega arith))))

  pub delivered_eq : (S t : ℕ) → SubqueryHere S → delivered combine q S t ≡ delivered_by (joined combine q S) q S t
  unfolding delivered joined delivered_up_to
  delivered_eq S t s = rounds_same (relations_of q) (suc (relations_of q)) S t s (ones_most q v S s) (omega (arith, ones_most q v S s))

  -- Its two cases: one relation, and two or more.
  pub delivered_one : (S t : ℕ) → SubqueryHere S → ones S ≡ 1 → delivered combine q S t ≡ carriage q S (home q (only q S)) t
  unfolding delivered_by
  delivered_one S t s one = delivered_eq S t s ∙ rw (eq-eqb (ones S) 1 one)

  pub delivered_more : (S t : ℕ) → SubqueryHere S → 1 < ones S → delivered combine q S t ≡ least (by_site (joined combine q S) q S t) (sites_of q)
  unfolding delivered_by
  delivered_more S t s more = delivered_eq S t s ∙ rw (ne_eqb (ones S) 1 (λ e. omega arith))

  -- Each candidate bounds the table.
  pub delivered_within : (S t k x : ℕ) → SubqueryHere S → 1 < ones S → k < sites_of q → AtMost (by_site (joined combine q S) q S t k) x → AtMost (delivered combine q S t) x
  delivered_within S t k x s more l h = rw (delivered_more S t s more) (least_most (by_site (joined combine q S) q S t) (sites_of q) k x l h)

  pub joined_within : (S k e x : ℕ) → may_join q k ≡ true → e < q.joins.count → AtMost (by_join combine (delivered combine q) q S k e) x → AtMost (joined combine q S k) x
  unfolding joined joined_by
  joined_within S k e x may l h = rw may (least_most (by_join combine (delivered combine q) q S k) q.joins.count e x l h)

  -- A number in a table comes from the best candidate.
  pub record BySite (S t k c : ℕ) : Type 0 where
    pub listed : k < sites_of q
    pub sum : Two ◌+◌ (joined combine q S k) (carriage q S k t) c

  pub delivered_found : (S t c : ℕ) → SubqueryHere S → 1 < ones S → delivered combine q S t ≡ some c → BySite S t (best_site combine q S t) c
  unfolding best_site
  delivered_found S t c s more e =
      let found = least_found (by_site (joined combine q S) q S t) (sites_of q) c (sym (delivered_more S t s more) ∙ e) in
      record { listed = found.0; sum = both_found ◌+◌ _ _ c found.1 }

  pub record ByJoin (S k e c : ℕ) : Type 0 where
    pub may : may_join q k ≡ true
    pub known : e < q.joins.count
    pub within : inside q.joins S e ≡ true
    pub parts : Split q.joins (relations_of q) S e (grown_parts q.joins (relations_of q) S e)
    pub smaller : Smaller S (first_part q S e) (other_part q S e)
    pub one : ℕ
    pub other : ℕ
    pub one_is : delivered combine q (first_part q S e) k ≡ some one
    pub other_is : delivered combine q (other_part q S e) k ≡ some other
    pub made : c ≡ combine one other + join_price q k (indexed q (first_part q S e) k) (first_part q S e) (indexed q (other_part q S e) k) (other_part q S e)

  by_join_found : (S k e c : ℕ) → SubqueryHere S → may_join q k ≡ true → e < q.joins.count → by_join combine (delivered combine q) q S k e ≡ some c → ByJoin S k e c
  unfolding by_join
  by_join_found S k e c s may l h =
      let price : ℕ = join_price q k (indexed q (first_part q S e) k) (first_part q S e) (indexed q (other_part q S e) k) (other_part q S e) in
      let D : ℕ → ℕ → Cost = delivered combine q in
      let test = picked (inside q.joins S e) (plus (both combine (D (first_part q S e) k) (D (other_part q S e) k)) (some price)) c h in
      let sum = both_found ◌+◌ (both combine (D (first_part q S e) k) (D (other_part q S e) k)) (some price) c test.1 in
      let two = both_found combine (D (first_part q S e) k) (D (other_part q S e) k) sum.one sum.one_is in
      let parts = grown_split q.joins (relations_of q) v.tree S e s l test.0 in
      record {
        may = may;
        known = l;
        within = test.0;
        parts = parts;
        smaller = split_smaller q.joins (relations_of q) S e _ parts;
        one = two.one;
        other = two.other;
        one_is = two.one_is;
        other_is = two.other_is;
        made = made c sum.one sum.other price (combine two.one two.other) sum.made two.made (some_same price sum.other sum.other_is);
      }
    where
      made : (c x y p z : ℕ) → c ≡ x + y → x ≡ z → p ≡ y → c ≡ z + p
      made c x y p z a b d = omega arith

  pub joined_found : (S k c : ℕ) → SubqueryHere S → joined combine q S k ≡ some c → ByJoin S k (best_join combine q S k) c
  unfolding joined joined_by best_join
  joined_found S k c s h =
      let test = picked (may_join q k) (least (by_join combine (delivered combine q) q S k) q.joins.count) c h in
      let found = least_found (by_join combine (delivered combine q) q S k) q.joins.count c test.1 in
      by_join_found S k (best_join combine q S k) c s test.0 found.0 found.1

pub delivered_is : DeliveredIs
delivered_is combine q v S t s = delivered_eq combine q v S t s
