-- Where cells stand: how far the loops reach over the sites, and that they stay within what a solve needs.
use Prim.Native.Nat.{ℕ, ◌+◌, ◌*◌, ◌^◌, ◌≤◌, ◌<◌}
use native.Mathlib.Decide.{dec_le}
use native.Mathlib.Omega.{arith}
use mathlib.Core.Path.{◌≡◌, sym}
use lib.Dec.{leb}
use borrow.Author.Tests.{leb-true, leb-false, le-leb, lt-leb}
use Rattle.relations.specs.Code.{most_sets}
use Rattle.relations.specs.Trees.{Subquery}
use Rattle.relations.proofs.Loops.{below_sets}
use Rattle.query.specs.declared.Query.{Query}
use Rattle.query.specs.Query.{Valid, relations_of, sites_of}
use Rattle.query.proofs.Choice.{pick_all}
use Rattle.tables.specs.Work.{cells_needed, place}
use Rattle.tables.proofs.Work.{place_mono, row_within, row_spare}
use Rattle.filler.specs.Cells.{paired, lanes_of, reach}

pub paired_eight : (m : ℕ) → m ≤ 8 → paired m ≤ 8
unfolding paired
paired_eight m h = omega arith

-- The lanes of few sites and of many.
pub lanes_few : (s : ℕ) → s ≤ 4 → s ≡ lanes_of s
unfolding lanes_of
lanes_few s h = rw (le-leb s 4 h)

pub lanes_many : (s : ℕ) → 4 < s → 8 ≡ lanes_of s
unfolding lanes_of
lanes_many s h = rw (lt-leb s 4 h)

-- What holds of the lanes of both.
by_lanes : (P : ℕ → Type 0) (s : ℕ) → (s ≤ 4 → P s) → (4 < s → P 8) → P (lanes_of s)
unfolding lanes_of
by_lanes P s few many = pick_all P (leb s 4) s 8 (λ e. few (leb-true s 4 e)) (λ e. many (leb-false s 4 e))

pub lanes_eight : (s : ℕ) → lanes_of s ≤ 8
lanes_eight s = by_lanes (λ (m : ℕ). m ≤ 8) s (λ h. omega arith) (λ h. omega arith)

-- The loops reach over every site, and no further than the next row.
pub reach_least : (s : ℕ) → s ≤ 8 → s ≤ reach s
unfolding paired
reach_least s few = by_lanes (λ (m : ℕ). s ≤ paired m) s (λ h. omega arith) (λ h. omega arith)

pub reach_most : (s : ℕ) → 1 ≤ s → reach s ≤ s + s
unfolding paired
reach_most s some = by_lanes (λ (m : ℕ). paired m ≤ s + s) s (λ h. omega arith) (λ h. omega arith)

pub reach_eight : (s : ℕ) → reach s ≤ 8
reach_eight s = paired_eight (lanes_of s) (lanes_eight s)

-- It is two lanes, four or eight.
pub reach_two : (s : ℕ) → 1 ≤ s → s ≤ 2 → 2 ≡ reach s
unfolding paired
reach_two s some few = omega (arith, lanes_few s (omega arith))

pub reach_four : (s : ℕ) → 2 < s → s ≤ 4 → 4 ≡ reach s
unfolding paired
reach_four s more few = omega (arith, lanes_few s few)

pub reach_many : (s : ℕ) → 4 < s → 8 ≡ reach s
unfolding paired
reach_many s h = omega (arith, lanes_many s h)

pub reach_else : (s : ℕ) → 1 ≤ s → (reach s ≡ 2 → ⊥) → (reach s ≡ 4 → ⊥) → 8 ≡ reach s
reach_else s some two four = go (dec_le s 2) (dec_le s 4)
  where
    go : Dec (s ≤ 2) → Dec (s ≤ 4) → 8 ≡ reach s
    go (yes h) d = absurd (two (sym (reach_two s some h)))
    go (no h) (yes k) = absurd (four (sym (reach_four s (omega arith) k)))
    go (no h) (no k) = reach_many s (omega arith)

-- A pair of lanes that begins within reach lies within it.
pub pair_within : (h t e s : ℕ) → t ≡ 2 * h → e ≡ reach s → t < e → (t + 2 ≤ reach s) × (t + 2 ≤ 8)
unfolding paired
pair_within h t e s even end low = (omega arith, omega (arith, reach_eight s))

-- A set of relations is below 512.
pub set_low : (q : Query) → Valid q → (S : ℕ) → S < 2 ^ relations_of q → S < most_sets
set_low q v S h = below_sets S (relations_of q) v.relations_most h

-- What the loops reach of a row with a further subquery behind it lies within the need.
pub reach_within : (q : Query) → Valid q → (S T : ℕ) → Subquery q.joins (relations_of q) S → Subquery q.joins (relations_of q) T → S < T →
    place q S 0 + reach (sites_of q) ≤ cells_needed q
reach_within q v S T s t h = omega (arith, row_spare q S T s t h, reach_most (sites_of q) v.sites_some)

-- So does where a row begins that has one behind it.
pub place_low : (q : Query) (S T : ℕ) → Subquery q.joins (relations_of q) T → S ≤ T → place q S 0 ≤ cells_needed q
place_low q S T t h = omega (arith, place_mono q S T h, row_within q T t)
