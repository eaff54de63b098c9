-- Where the cells stand in the work area: the row of a subquery ends where the next one begins, the first begins at 0, and the last ends at the need.
use Prim.Native.Nat.{ℕ, ◌+◌, ◌*◌, ◌^◌, ◌≤◌, ◌<◌}
use mathlib.Core.Path.{◌≡◌, ap}
use mathlib.Core.Bool.{false}
use native.Mathlib.Nat.{mul_comm, mul-le-mul, mul-le-mul_left}
use native.Mathlib.Decide.{dec_lt}
use native.Mathlib.Omega.{arith}
use lib.Pow.{pow_mono}
use Rattle.relations.specs.Trees.{is_subquery, Subquery, subqueries}
use Rattle.relations.proofs.Connected.{subquery_range}
use Rattle.relations.proofs.SubqueriesMost.{subqueries_most}
use Rattle.relations.proofs.Below.{count_first, count_next, count_skip, count_mono}
use Rattle.query.specs.declared.Query.{Query}
use Rattle.query.specs.Query.{relations_of, sites_of}
use Rattle.tables.specs.Work.{cells_needed, MostCells, place, PlacesLaw}

module _ (q : Query) where
  pub place_after : (S t : ℕ) → place q S t ≡ place q S 0 + t
  unfolding place
  place_after S t = omega arith

  pub place_next : (S : ℕ) → Subquery q.joins (relations_of q) S → place q (S + 1) 0 ≡ place q S 0 + sites_of q
  unfolding place
  place_next S s = omega (arith, ap (λ (x : ℕ). sites_of q * x) (count_next q.joins (relations_of q) S s))

  pub place_skip : (S : ℕ) → is_subquery q.joins (relations_of q) S ≡ false → place q (S + 1) 0 ≡ place q S 0
  unfolding place
  place_skip S s = omega (arith, ap (λ (x : ℕ). sites_of q * x) (count_skip q.joins (relations_of q) S s))

  pub place_first : place q 1 0 ≡ 0
  unfolding place
  place_first = omega (arith, ap (λ (x : ℕ). sites_of q * x) (count_first q.joins (relations_of q)))

  pub place_mono : (S T : ℕ) → S ≤ T → place q S 0 ≤ place q T 0
  unfolding place
  place_mono S T h = omega (arith, mul-le-mul_left (sites_of q) (count_mono q.joins (relations_of q) S T h))

  pub place_before : (S T : ℕ) → Subquery q.joins (relations_of q) S → S < T → place q S 0 + sites_of q ≤ place q T 0
  place_before S T s h = omega (arith, place_next S s, place_mono (S + 1) T (omega arith))

  -- Behind the last set.
  place_end : place q (2 ^ relations_of q) 0 ≡ cells_needed q
  unfolding place cells_needed
  place_end = omega (arith, mul_comm (sites_of q) (subqueries q.joins (relations_of q)))

  pub row_within : (S : ℕ) → Subquery q.joins (relations_of q) S → place q S 0 + sites_of q ≤ cells_needed q
  row_within S s = omega (arith, place_before S (2 ^ relations_of q) s (subquery_range q.joins (relations_of q) S s).1, place_end)

  -- A row below another subquery's has a whole row behind it.
  pub row_spare : (S T : ℕ) → Subquery q.joins (relations_of q) S → Subquery q.joins (relations_of q) T → S < T →
      place q S 0 + sites_of q + sites_of q ≤ cells_needed q
  row_spare S T s t h = omega (arith, place_before S T s h, row_within T t)

  -- A cell of a subquery is before every cell of a later one.
  cell_before : (S T t u : ℕ) → Subquery q.joins (relations_of q) S → t < sites_of q → S < T → place q S t < place q T u
  cell_before S T t u s h l = omega (arith, place_before S T s l, place_after S t, place_after T u)

pub places_law : PlacesLaw
places_law q = record {
  apart = λ S T t u s r h k e.
      let same : S ≡ T = elim (dec_lt S T) [
        | yes l ↦ absurd (omega (arith, cell_before q S T t u s h l))
        | no l ↦ elim (dec_lt T S) [ yes m ↦ absurd (omega (arith, cell_before q T S u t r k m)) | no m ↦ omega arith ]
      ] in
      (same, omega (arith, place_after q S t, place_after q T u, ap (λ (x : ℕ). place q x 0) same));
  within = λ S t s h. omega (arith, place_after q S t, row_within q S s);
}

pub most_cells_lem : MostCells
unfolding cells_needed
most_cells_lem q v = omega (arith, mul-le-mul {n₁ = subqueries q.joins (relations_of q)} {m₁ = sites_of q} {n₂ = 264} {m₂ = 8} few v.sites_most)
  where
    few : subqueries q.joins (relations_of q) ≤ 264
    few =
        omega (
          arith,
          v.relations_most,
          v.tree.joins,
          subqueries_most q.joins (relations_of q) v.tree,
          pow_mono {i = q.joins.count} {j = 8} (omega (arith, v.relations_most, v.tree.joins)),
        )
