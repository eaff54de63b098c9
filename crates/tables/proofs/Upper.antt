-- The written plan is allowed and costs the tables' figure: run on any stack that has loaded nothing of it, the steps written for a subquery
-- put it on top at its table's figure, by recursion on the number of relations.
use Prim.Native.Nat.{ℕ, zero, suc, ◌+◌, ◌-◌, ◌*◌, ◌≤◌, ◌<◌}
use mathlib.Core.Path.{◌≡◌, refl, sym, subst, ◌∙◌}
use mathlib.Core.Bool.{Bool, true}
use mathlib.Core.Logic.{◌⊎◌, inl, inr}
use mathlib.Core.List.{List, [], ◌∷◌, ◌++◌}
use lib.Count.{ones, ones-ones}
use lib.ListN.{length, length-append}
use native.Mathlib.Nat.{eq-or-lt_of_le}
use native.Mathlib.Omega.{arith}
use borrow.Author.Tests.{eq-eqb, ne_eqb, le-leb}
use Rattle.relations.specs.Sets.{bit, Apart, all}
use Rattle.relations.specs.Trees.{Subquery}
use Rattle.relations.proofs.Bits.{bit_add, bit_none, bit_le}
use Rattle.relations.proofs.Subqueries.{subqueries_law}
use Rattle.query.specs.declared.Query.{Query}
use Rattle.query.specs.Cost.{some}
use Rattle.query.specs.Query.{Valid, relations_of, sites_of, may_join}
use Rattle.query.specs.Prices.{join_price, indexed}
use Rattle.rules.specs.Machine.{Step}
use Rattle.rules.specs.declared.Origin.TheVariants.{Joined}
use Rattle.rules.specs.declared.Held.{Held}
use Rattle.rules.specs.Combine.{Combines}
use Rattle.rules.specs.Machine.{Machine, start, Outcome, went, links, qualifies}
use Rattle.rules.specs.Allowed.{most_steps, longest_plan, accepted, finish, checked}
use Rattle.rules.proofs.Links.{links_of}
use Rattle.rules.proofs.Runs.{join_goes, ran_then, ran_one, ran_ends}
use Rattle.tables.specs.Tables.{first_part, other_part, delivered, cheapest}
use Rattle.tables.specs.Written.{join_step, sends_due, best_site, best_join, joined_steps, delivered_steps, steps_up_to, written_delivered, written_steps, step_bytes, plan_bytes, written}
use Rattle.tables.specs.Theorems.{WrittenLaw}
use Rattle.tables.proofs.Tables.{ones_some, ones_most, ByJoin, BySite, joined_found, delivered_found}
use Rattle.tables.proofs.StepBytes.{step_bytes_long, plan_bytes_most, steps_back}
use Rattle.tables.proofs.Sends.{held_at, Puts, Delivers, more_unindexed, due, delivers_one}

module _ (combine : ℕ → ℕ → ℕ) (q : Query) where
  -- What a join makes of two results, by what their flags, sets and sums come to.
  ends_same : (k x y P R : ℕ) (i i' j j' : Bool) (L L' S : ℕ) (hs : List Held) → i ≡ i' → j ≡ j' → P + R ≡ S → L ≡ L' →
      ◌≡◌ {A = Outcome} (went (record { loaded = L; stack = held_at (P + R) k Joined (combine x y + join_price q k i P j R) ∷ hs }))
      (went (record { loaded = L'; stack = held_at S k Joined (combine x y + join_price q k i' P j' R) ∷ hs }))
  ends_same k x y P R i i' j j' L L' S hs a b c d = rw (a, b, c, d)

  -- The steps for both parts, one after the other, and the join.
  puts_join : (xs ys : List Step) (P R S e k x y : ℕ) → Delivers combine q xs P k x → Delivers combine q ys R k y → Apart P R → P + R ≡ S → e < relations_of q - 1 →
      may_join q k ≡ true → links q.joins e P R ≡ true →
      Puts combine q (xs ++ (ys ++ (join_step e ∷ []))) S k Joined (combine x y + join_price q k (indexed q P k) P (indexed q R k) R)
  puts_join xs ys P R S e k x y one other apart whole known may linked m free =
      ran_then combine q xs (ys ++ (join_step e ∷ [])) m first_on (one.puts m free_first)
      ∙ ran_then combine q ys (join_step e ∷ []) first_on both_on (other.puts first_on free_second)
      ∙ ran_one combine q (join_step e) both_on _
      (join_goes combine q e (m.loaded + P + R) (held_at P k one.origin x) (held_at R k other.origin y) m.stack
      (record { known = known; there = refl; may = may; linked = linked }))
      ∙ ends_same k x y P R _ _ _ _ _ _ S m.stack one.qualified other.qualified whole (omega arith)
    where
      first_on : Machine
      first_on = record { loaded = m.loaded + P; stack = held_at P k one.origin x ∷ m.stack }

      both_on : Machine
      both_on = record { loaded = m.loaded + P + R; stack = held_at R k other.origin y ∷ (held_at P k one.origin x ∷ m.stack) }

      members : (i : ℕ) → bit S i ≡ bit P i + bit R i
      members i = rw (← whole) (bit_add P R apart i)

      free_first : Apart m.loaded P
      free_first i = omega (arith, free i, members i)

      free_second : Apart (m.loaded + P) R
      free_second i = omega (arith, free i, members i, bit_add m.loaded P free_first i)

  -- Two relations or more: the parts by the best join at the best site, the join, then the sends that are due.
  delivers_more : (v : Valid q) (D : ℕ → ℕ → List Step) (S t c : ℕ) → Subquery q.joins (relations_of q) S → 1 < ones S → t < sites_of q →
      delivered combine q S t ≡ some c →
      ((P k x : ℕ) → Subquery q.joins (relations_of q) P → ones P < ones S → k < sites_of q → delivered combine q P k ≡ some x → Delivers combine q (D P k) P k x) →
      Delivers combine q (joined_steps combine D q S (best_site combine q S t) ++ sends_due q S (best_site combine q S t) t) S t c
  unfolding joined_steps qualifies
  delivers_more v D S t c s more listed number fewer =
      let k : ℕ = best_site combine q S t in
      let e : ℕ = best_join combine q S k in
      let P : ℕ = first_part q S e in
      let R : ℕ = other_part q S e in
      let xs : List Step = D P k in
      let ys : List Step = D R k in
      let one : Delivers combine q xs P k join.one = fewer P k join.one join.parts.first_part join.smaller.first_fewer site.listed join.one_is in
      let other : Delivers combine q ys R k join.other = fewer R k join.other join.parts.second_part join.smaller.second_fewer site.listed join.other_is in
      let puts : Puts combine q (xs ++ (ys ++ (join_step e ∷ []))) S k Joined site.sum.one =
      subst (λ (z : ℕ). Puts combine q (xs ++ (ys ++ (join_step e ∷ []))) S k Joined z) (sym join.made)
      (puts_join xs ys P R S e k join.one join.other one other join.parts.apart join.parts.whole known join.may linked) in
      let size = lengths xs ys e (ones P) (ones R) (ones S) one.short other.short join.smaller.count in
      subst (λ (z : ℕ). Delivers combine q ((xs ++ (ys ++ (join_step e ∷ []))) ++ sends_due q S k t) S t z) (sym site.sum.made)
      (due combine q v.sites_most (xs ++ (ys ++ (join_step e ∷ []))) S k t site.sum.one site.sum.other Joined puts (sym (more_unindexed q S k more))
      (λ away. more_unindexed q S t more) site.listed site.sum.other_is size.0 size.1)
    where
      site : BySite combine q v S t (best_site combine q S t) c
      site = delivered_found combine q v S t c s more number

      join : ByJoin combine q v S (best_site combine q S t) (best_join combine q S (best_site combine q S t)) site.sum.one
      join = joined_found combine q v S (best_site combine q S t) site.sum.one s site.sum.one_is

      known : best_join combine q S (best_site combine q S t) < relations_of q - 1
      known = omega (arith, join.known, v.tree.joins)

      linked : links q.joins (best_join combine q S (best_site combine q S t)) (first_part q S (best_join combine q S (best_site combine q S t)))
          (other_part q S (best_join combine q S (best_site combine q S t))) ≡ true
      linked = links_of q.joins _ _ _ join.parts.first_in join.parts.second_in

      lengths : (xs ys : List Step) (e p r s : ℕ) → length xs + 8 ≤ 16 * p → length ys + 8 ≤ 16 * r → s ≡ p + r →
          (1 ≤ length (xs ++ (ys ++ (join_step e ∷ [])))) × (length (xs ++ (ys ++ (join_step e ∷ []))) + 15 ≤ 16 * s)
      lengths xs ys e p r s a b c =
          let outer = length-append xs (ys ++ (join_step e ∷ [])) in
          let inner = length-append ys (join_step e ∷ []) in
          (omega arith, omega arith)

  delivers : (v : Valid q) (f S t c : ℕ) → Subquery q.joins (relations_of q) S → ones S ≤ f → t < sites_of q → delivered combine q S t ≡ some c →
      Delivers combine q (steps_up_to combine q f S t) S t c
  unfolding steps_up_to delivered_steps
  delivers v zero S t c s enough listed e = absurd (omega (arith, ones_some q v S s))
  delivers v (suc f) S t c s enough listed e =
      go (eq-or-lt_of_le (ones_some q v S s)) (λ P k x p fewer l h. delivers v f P k x p (omega arith) l h)
    where
      go : (1 ≡ ones S) ⊎ (1 < ones S) →
          ((P k x : ℕ) → Subquery q.joins (relations_of q) P → ones P < ones S → k < sites_of q → delivered combine q P k ≡ some x →
          Delivers combine q (steps_up_to combine q f P k) P k x) →
          Delivers combine q (delivered_steps combine (joined_steps combine (steps_up_to combine q f) q S) q S t) S t c
      go (inl one) fewer = rw (eq-eqb (ones S) 1 (sym one)) (delivers_one combine q v S t c s (sym one) e)
      go (inr more) fewer = rw (ne_eqb (ones S) 1 (λ h. omega arith)) (delivers_more v (steps_up_to combine q f) S t c s more listed e fewer)

-- Steps that put every relation at the query site make an allowed plan.
plan_allowed : (combine : ℕ → ℕ → ℕ) (q : Query) (xs : List Step) (c : ℕ) → Delivers combine q xs (all (relations_of q)) q.target c → length xs ≤ most_steps →
    checked combine q (plan_bytes xs) ≡ accepted c
unfolding checked finish
plan_allowed combine q xs c d few =
    rw (le-leb 1 (length xs) d.long, le-leb (length xs) most_steps few, eq-eqb (length (step_bytes xs)) (2 * length xs) (step_bytes_long xs), steps_back xs)
    (ran_ends combine q xs 0 start _ (d.puts start (λ i. omega (arith, bit_none i, bit_le (all (relations_of q)) i)))
    ∙ rw (eq-eqb (all (relations_of q)) (all (relations_of q)) refl, eq-eqb q.target q.target refl))

pub written_law : WrittenLaw
unfolding written_delivered
written_law combine laws q v c e =
    let whole = (subqueries_law q.joins (relations_of q) v.tree).whole in
    let d : Delivers combine q (written_steps combine q) (all (relations_of q)) q.target c =
    delivers combine q v (relations_of q) (all (relations_of q)) q.target c whole (ones_most q v (all (relations_of q)) whole) v.target_in e in
    let few : length (written_steps combine q) ≤ most_steps = omega (arith, d.short, ones-ones (relations_of q), v.relations_most) in
    record { some_step = d.long; few_steps = few; allowed = plan_allowed combine q (written_steps combine q) c d few }

-- The written plan fits into the longest one.
pub written_most : (combine : ℕ → ℕ → ℕ) → Combines combine → (q : Query) → Valid q → (c : ℕ) → cheapest combine q ≡ some c → length (written combine q) ≤ longest_plan
written_most combine laws q v c e = plan_bytes_most (written_steps combine q) (written_law combine laws q v c e).few_steps
