-- What every set of relations holds, one number a set: how many relations, how many joins, and which joins. The table of all sets is made by
-- doubling: a set with a new relation holds what the set without it holds, the relation, and the joins that lead from the set to it.
use Rattle.std.specs.Prelude.{ℕ, zero, suc, ◌+◌, ◌-◌, ◌*◌, ◌/◌, ◌%◌, ◌^◌, ◌≤◌, ◌<◌, ◌≡◌, Bool, ◌&&◌, List, eqb, leb, ltb, length, get_or}
use Rattle.std.specs.Int.Bits.{bit_and}
use Rattle.std.specs.Int.Count.{ones}
use Rattle.relations.specs.declared.Joins.{Joins}
use Rattle.relations.specs.Trees.{joins_in, join_bits, Tree}
use Rattle.relations.specs.Code.{Listed, or_none, most_sets}

-- The entry of a set: the number of its relations, the number of its joins, and its joins as a set, each in eight bits or more of its own.
unfoldable pub entry : Joins → ℕ → ℕ
entry J S = 65536 * ones S + (256 * joins_in J S J.count + join_bits J S J.count)

-- The entries of the sets below m.
abbrev pub TableOf : Joins → List ℕ → ℕ → Type 0
TableOf J l m = Listed l (entry J) most_sets m

-- The joins make a tree, and the table has every set of its relations.
pub record Tabled (J : Joins) (l : List ℕ) : Type 0 where
  pub few : J.count ≤ 8
  pub tree : Tree J (J.count + 1)
  pub entries : TableOf J l (2 ^ (J.count + 1))

-- The set of an entry holds one join fewer than relations. In a tree these are the subqueries: `connected` in proofs/.
unfoldable pub is_connected : ℕ → Bool
is_connected x = eqb (x / 256 % 256 + 1) (x / 65536)

-- The set M lies in T together with a new relation, whose mask is half, and not in T alone: the new one is M's highest, and the rest of M is in T.
unfoldable pub arrives : ℕ → ℕ → ℕ → Bool
arrives half M T = (leb half M && ltb M (2 * half)) && eqb (bit_and T (M - half)) (M - half)

-- What the joins below m with the ends l bring to the entry of T as the new relation comes.
unfoldable pub arriving : List ℕ → ℕ → ℕ → ℕ → ℕ
arriving l half T zero = 0
arriving l half T (suc m) = arriving l half T m + or_none (arrives half (get_or l m 0) T) (256 + 2 ^ m)

-- The upper half of a table, from half on, has g 0, g 1, .. at its first m places. All else is as it was.
pub record Upper (old new : List ℕ) (half m : ℕ) (g : ℕ → ℕ) : Type 0 where
  pub long : length new ≡ length old
  pub lower : (i : ℕ) → i < half → get_or new i 0 ≡ get_or old i 0
  pub done : (i : ℕ) → i < m → get_or new (half + i) 0 ≡ g i
  pub left : (i : ℕ) → m ≤ i → get_or new (half + i) 0 ≡ get_or old (half + i) 0

-- A table with room for twice half sets, whose half numbers from a place on are below 2^k: so small that what is added to them fits 32 bits.
pub record Roomy (l : List ℕ) (half from k : ℕ) : Type 0 where
  pub long : length l ≡ most_sets
  pub low : half ≤ 256
  pub room : (i : ℕ) → i < half → get_or l (from + i) 0 < 2 ^ k
