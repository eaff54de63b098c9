-- Prices: rules 3.2 to 3.5.
use Rattle.std.specs.Prelude.{ℕ, ◌+◌, ◌*◌, ◌/◌, Bool, true, false, ◌&&◌, eqb, leb}
use Rattle.std.specs.Int.Count.{ones}
use Rattle.relations.specs.Sets.{lowest}
use Rattle.query.specs.declared.Query.{Query}
use Rattle.query.specs.Choice.{pick}
use Rattle.query.specs.Cost.{Cost, none, some}
use Rattle.query.specs.Query.{relations_of, home, index, join_fixed, join_rate, is_open, line_fixed, line_rate, size}

-- The parcels of 8 bytes that a size starts: none for 0 bytes, one for 8, two for 9.
unfoldable pub parcels : ℕ → ℕ
parcels size = (size + 7) / 8

-- What a line charges for a size: line fixed + line rate × started parcels.
abbrev pub line_charge : (fixed rate size : ℕ) → ℕ
line_charge fixed rate size = fixed + rate * parcels size

-- The price of a line from a to b for a set P.
unfoldable pub line_price : Query → ℕ → ℕ → ℕ → ℕ
line_price q P a b = line_charge (line_fixed q a b) (line_rate q a b) (size q P)

-- The price of sending P from a to b: none where the line is closed, and none from a site to itself, since a send goes to another site.
unfoldable pub sending : Query → ℕ → ℕ → ℕ → Cost
sending q P a b = pick (eqb a b) none (pick (is_open q a b) (some (line_price q P a b)) none)

-- The smaller of two sizes.
abbrev pub smaller : ℕ → ℕ → ℕ
smaller x y = pick (leb x y) x y

-- The reads of a join's two operands, each with whether it qualifies and its size. A join follows one index: where both qualify, the read of the larger
-- is spared and the smaller is counted; where one does, its read is spared; else both are counted.
unfoldable pub reads : Bool → ℕ → Bool → ℕ → ℕ
reads true x true y = smaller x y
reads true x false y = y
reads false x true y = x
reads false x false y = x + y

-- What a join charges for what it reads and for its result: join fixed + join rate × (reads + size of both together).
abbrev pub join_charge : (fixed rate reads result : ℕ) → ℕ
join_charge fixed rate reads result = fixed + rate * (reads + result)

-- The price of joining P and R at site k, a and b telling whether they qualify.
unfoldable pub join_price : Query → ℕ → Bool → ℕ → Bool → ℕ → ℕ
join_price q k a P b R = join_charge (join_fixed q k) (join_rate q k) (reads a (size q P) b (size q R)) (size q (P + R))

-- How many parcels a size starts at most; and what a line and a join cost at most, each amount at its limit (rule 2.9).
abbrev pub most_parcels : ℕ
most_parcels = 125_000_000

abbrev pub dearest_line : ℕ
dearest_line = 125_001_000_000

abbrev pub dearest_join : ℕ
dearest_join = 3_000_001_000_000

-- Whether what is delivered of S at site k qualifies: it is one relation, k is its home (so it was never sent), and its index flag is set.
unfoldable pub indexed : Query → ℕ → ℕ → Bool
indexed q S k = eqb (ones S) 1 && (eqb (home q (lowest (relations_of q) S)) k && index q (lowest (relations_of q) S))
