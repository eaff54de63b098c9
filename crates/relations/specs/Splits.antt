-- The two parts of a subquery by a join in it, as the code takes them: by a mask, without growth and without the list of joins.
use Rattle.std.specs.Prelude.{ℕ, ◌+◌, ◌-◌, ◌<◌, ◌≡◌, true}
use Rattle.std.specs.Int.Bits.{bit_and}
use Rattle.relations.specs.declared.Joins.{Joins}
use Rattle.relations.specs.declared.splitting.Parts.{Parts}
use Rattle.relations.specs.Sets.{bit, Apart}
use Rattle.relations.specs.Growth.{first, second, inside}
use Rattle.relations.specs.Trees.{Subquery, Tree, part, side}

-- What S shares with a side, and the rest of S.
abbrev pub parts_by : (S side : ℕ) → Parts
parts_by S side = record { first = bit_and S side; second = S - bit_and S side }

-- The two parts of S by e are subqueries, each with one end of the join, share no relation and make up the whole.
pub record Split (J : Joins) (n S e : ℕ) (p : Parts) : Type 0 where
  pub first_part : Subquery J n p.first
  pub second_part : Subquery J n p.second
  pub first_in : bit p.first (first J e) ≡ 1
  pub second_in : bit p.second (second J e) ≡ 1
  pub apart : Apart p.first p.second
  pub whole : p.first + p.second ≡ S

-- For every subquery and every join in it this holds of the parts that the code takes: those by the join's side in the whole query, which `sides`
-- answers (`SidesOf`).
abbrev pub SplitLaw : Type 0
SplitLaw =
    (J : Joins) (n : ℕ) → Tree J n → (S e : ℕ) → Subquery J n S → e < J.count → inside J S e ≡ true → Split J n S e (parts_by S (side J n e))

-- They are the parts of rule 2.5: the first is what grows within S from the join's first relation, the second the rest of S.
abbrev pub PartBySide : Type 0
PartBySide =
    (J : Joins) (n : ℕ) → Tree J n → (S e : ℕ) → Subquery J n S → e < J.count → inside J S e ≡ true → part J n S e ≡ (parts_by S (side J n e)).first
