-- No figure is above `most_cost`. A plan has at most `most_steps` steps, of which its run keeps count. In the tables k relations take at most k - 1
-- joins and 2k - 1 carriages, each of at most seven lines.
use Prim.Native.Nat.{ℕ, zero, suc, ◌+◌, ◌*◌, ◌≤◌, ◌<◌}
use mathlib.Core.Path.{◌≡◌, sym, ◌∙◌}
use mathlib.Core.Logic.{◌⊎◌, inl, inr}
use lib.Count.{ones, ones-le}
use native.Mathlib.Nat.{eq-or-lt_of_le, le_refl}
use native.Mathlib.Omega.{arith}
use Rattle.relations.specs.Trees.{Subquery}
use Rattle.query.specs.declared.Query.{Query}
use Rattle.query.specs.Cost.{some}
use Rattle.query.specs.Query.{Valid, relations_of, home}
use Rattle.query.specs.Prices.{dearest_join, indexed}
use Rattle.query.proofs.Prices.{join_most}
use Rattle.routes.specs.Routes.{dearest_carriage}
use Rattle.routes.proofs.Taken.{carriage_most}
use Rattle.rules.specs.Combine.{Combines}
use Rattle.rules.specs.Allowed.{most_steps}
use Rattle.rules.specs.Code.{Room}
use Rattle.rules.proofs.Invariants.{Ends, allowed_ends}
use Rattle.rules.proofs.Counting.{start_room, step_room}
use Rattle.tables.specs.Tables.{first_part, other_part, only, delivered, joined}
use Rattle.tables.specs.Written.{best_site, best_join}
use Rattle.tables.specs.Theorems.{most_cost, PlanMostLaw, MostLaw}
use Rattle.tables.proofs.Tables.{ones_some, ones_most, BySite, ByJoin, delivered_one, delivered_found, joined_found}

pub plan_most : PlanMostLaw
plan_most combine laws q v plan c allowed =
    let end : Ends q (Room (relations_of q)) most_steps c =
    allowed_ends combine q (Room (relations_of q)) (step_room combine laws q v) plan c (start_room (relations_of q)) allowed in
    omega (arith, end.few, end.figure, end.kept.held, end.kept.steps, end.kept.small, ones-le (relations_of q) end.loaded end.kept.in_all, v.relations_most)

-- c is a figure of k relations, with carriages of at most y beyond those of the joins' operands, said without a difference.
abbrev Below : ℕ → ℕ → ℕ → Type 0
Below c k y = c + (dearest_join + 2 * dearest_carriage) ≤ k * (dearest_join + 2 * dearest_carriage) + y

below_nine : (c k y : ℕ) → k ≤ 9 → y ≤ dearest_carriage → Below c k y → c ≤ most_cost
below_nine c k y nine l h = omega arith

module _ (combine : ℕ → ℕ → ℕ) (laws : Combines combine) (q : Query) (v : Valid q) where
  -- Every number of Delivered for fewer relations than S has is below.
  abbrev FewerBelow : ℕ → Type 0
  FewerBelow S =
      (P k x : ℕ) → Subquery q.joins (relations_of q) P → ones P < ones S → delivered combine q P k ≡ some x → Below x (ones P) dearest_carriage

  -- Two results, each perhaps carried, and their join.
  joined_below : (S k c : ℕ) → Subquery q.joins (relations_of q) S → joined combine q S k ≡ some c → FewerBelow S → Below c (ones S) 0
  joined_below S k c s number fewer =
      let e : ℕ = best_join combine q S k in
      let join : ByJoin combine q v S k e c = joined_found combine q v S k c s number in
      let P : ℕ = first_part q S e in
      let R : ℕ = other_part q S e in
      omega (
        arith,
        join.made,
        join.smaller.count,
        fewer P k join.one join.parts.first_part join.smaller.first_fewer join.one_is,
        fewer R k join.other join.parts.second_part join.smaller.second_fewer join.other_is,
        laws.most join.one join.other,
        join_most q v k (indexed q P k) P (indexed q R k) R,
      )

  delivered_below : (f S t c : ℕ) → Subquery q.joins (relations_of q) S → ones S ≤ f → delivered combine q S t ≡ some c → Below c (ones S) dearest_carriage
  delivered_below zero S t c s l number = absurd (omega (arith, ones_some q v S s))
  delivered_below (suc f) S t c s l number =
      go (eq-or-lt_of_le (ones_some q v S s)) (λ P k x p fewer h. delivered_below f P k x p (omega arith) h)
    where
      go : (1 ≡ ones S) ⊎ (1 < ones S) → FewerBelow S → Below c (ones S) dearest_carriage
      go (inl one) fewer =
          omega (arith, carriage_most q v S (home q (only q S)) t c (sym (delivered_one combine q v S t s (sym one)) ∙ number))
      go (inr more) fewer =
          let k : ℕ = best_site combine q S t in
          let site : BySite combine q v S t k c = delivered_found combine q v S t c s more number in
          omega (arith, joined_below S k site.sum.one s site.sum.one_is fewer, site.sum.made, carriage_most q v S k t site.sum.other site.sum.other_is)

pub delivered_most : MostLaw
delivered_most combine laws q v S t c s e =
    below_nine c (ones S) dearest_carriage (omega (arith, ones_most q v S s, v.relations_most)) (le_refl _) (delivered_below combine laws q v (ones S) S t c s (le_refl _) e)

-- Nor is Joined's.
pub joined_most : (combine : ℕ → ℕ → ℕ) → Combines combine → (q : Query) → Valid q → (S k c : ℕ) → Subquery q.joins (relations_of q) S →
    joined combine q S k ≡ some c → c ≤ most_cost
joined_most combine laws q v S k c s number =
    below_nine c (ones S) 0 (omega (arith, ones_most q v S s, v.relations_most)) (omega arith)
    (joined_below combine laws q v S k c s number (λ P i x p fewer h. delivered_below combine laws q v (ones P) P i x p (le_refl _) h))
