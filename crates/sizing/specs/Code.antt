-- What the contracts of the code cite besides the definitions. The code goes from a subquery to those with one relation more, which joins in
-- last, so it keeps for each subquery the relations that would: those that wait for it.
use Rattle.std.specs.Prelude.{ℕ, zero, suc, ◌+◌, ◌-◌, ◌^◌, ◌≤◌, ◌<◌, ◌≡◌, ◌↔◌, ◌⊎◌, true, List, eqb, length, get_or}
use Rattle.std.specs.Int.Bits.{bit_or}
use Rattle.std.specs.Int.Count.{ones}
use Rattle.relations.specs.Code.{Listed, most_sets, ends_of, or_none}
use Rattle.relations.specs.declared.Joins.{Joins}
use Rattle.relations.specs.Sets.{bit, all, lowest}
use Rattle.relations.specs.Trees.{Subquery, Tree}
use Rattle.subqueries.specs.Table.{TableOf}
use Rattle.query.specs.Query.{UpTo}
use Rattle.sizing.specs.Worked.{links, next, taken_after, worked_size}

-- Nine numbers from 1 to 1,000,000: row counts, or divisors.
pub record Counts (l : List ℕ) : Type 0 where
  pub some : (i : ℕ) → i < 9 → 1 ≤ get_or l i 0
  pub most : UpTo 1_000_000 l

-- The other end of a join, as a set, where relation r is one of its ends; else none.
abbrev pub other_end : (ends r : ℕ) → ℕ
other_end ends r = or_none (eqb (bit ends r) 1) (ends - 2 ^ r)

-- The relations that the joins below m link with relation r, as a set, by the ends of each join.
unfoldable pub neighbours_below : (ends : ℕ → ℕ) → (r m : ℕ) → ℕ
neighbours_below ends r zero = 0
neighbours_below ends r (suc m) = bit_or (neighbours_below ends r m) (other_end (ends m) r)

abbrev pub neighbours : Joins → ℕ → ℕ
neighbours J r = neighbours_below (ends_of J) r J.count

-- The relations above the lowest of S that are not in S, as a set.
unfoldable pub above : (n S : ℕ) → ℕ
above n S = all n - S - (2 ^ lowest n S - 1)

-- One of the joins below m links relation r with T.
abbrev pub AdjacentBy : Joins → (m T r : ℕ) → Type 0
AdjacentBy J m T r = (e : ℕ) × (e < m) × (links J T r e ≡ true)

abbrev pub Adjacent : Joins → (T r : ℕ) → Type 0
Adjacent J T r = AdjacentBy J J.count T r

-- Relation c waits for the subquery S: it would join in after all of S, since it is adjacent to S and above its lowest relation, and whenever it was
-- adjacent to those taken a lower one joined in.
pub record Waits (J : Joins) (n S c : ℕ) : Type 0 where
  pub in_all : c < n
  pub out : bit S c ≡ 0
  pub near : Adjacent J S c
  pub higher : lowest n S < c
  pub later : (k : ℕ) → suc k < ones S → Adjacent J (taken_after J n S k) c → next J n S (taken_after J n S k) < c

-- The relations that wait for S, as a set.
pub record Waiting (J : Joins) (n S set : ℕ) : Type 0 where
  pub low : set < 2 ^ n
  pub each : (c : ℕ) → (bit set c ≡ 1) ↔ Waits J n S c

-- The two lists that the code fills, by sets.
pub record Lists : Type 0 where
  pub sizes : List ℕ
  pub waiting : List ℕ

abbrev pub lists_of : (sizes waiting : List ℕ) → Lists
lists_of sizes waiting = record { sizes = sizes; waiting = waiting }

pub record Long (l : Lists) : Type 0 where
  pub sizes_long : length l.sizes ≡ most_sets
  pub waiting_long : length l.waiting ≡ most_sets

-- They have what S comes to.
pub record Right (J : Joins) (n : ℕ) (rows divisors : List ℕ) (l : Lists) (S : ℕ) : Type 0 where
  pub size : get_or l.sizes S 0 ≡ worked_size J n rows divisors S
  pub waiting : Waiting J n S (get_or l.waiting S 0)

-- They are at X as they were.
pub record Same (old new : Lists) (X : ℕ) : Type 0 where
  pub size : get_or new.sizes X 0 ≡ get_or old.sizes X 0
  pub waiting : get_or new.waiting X 0 ≡ get_or old.waiting X 0

-- Each relation r below m by itself is right; everything else is as it was.
pub record Begun (J : Joins) (n : ℕ) (rows divisors : List ℕ) (old new : Lists) (m : ℕ) : Type 0 where
  pub long : Long new
  pub right : (r : ℕ) → r < m → Right J n rows divisors new (2 ^ r)
  pub each : (X : ℕ) → Same old new X ⊎ ((r : ℕ) × (r < n) × (X ≡ 2 ^ r))

-- S with each relation that waits for it is right; everything else is as it was.
pub record Extended (J : Joins) (n : ℕ) (rows divisors : List ℕ) (S : ℕ) (old new : Lists) : Type 0 where
  pub long : Long new
  pub right : (c : ℕ) → Waits J n S c → Right J n rows divisors new (S + 2 ^ c)
  pub each : (X : ℕ) → Same old new X ⊎ ((c : ℕ) × Waits J n S c × (X ≡ S + 2 ^ c))

-- What beginning asks, and what going on from S asks.
pub record Startable (J : Joins) (near : List ℕ) (l : Lists) : Type 0 where
  pub few : J.count ≤ 8
  pub tree : Tree J (J.count + 1)
  pub near_is : Listed near (neighbours J) 9 (J.count + 1)
  pub long : Long l

pub record Extendable (J : Joins) (n : ℕ) (table rows divisors near : List ℕ) (l : Lists) (S : ℕ) : Type 0 where
  pub few : J.count ≤ 8
  pub tree : Tree J n
  pub entries : TableOf J table (2 ^ n)
  pub near_is : Listed near (neighbours J) 9 n
  pub rows_in : Counts rows
  pub divisors_in : Counts divisors
  pub long : Long l
  pub subquery : Subquery J n S
  pub right : Right J n rows divisors l S
