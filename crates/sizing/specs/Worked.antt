-- Sizes worked out from row counts (rule 2.11): the rows of a subquery's lowest relation, then its other relations join in one after another.
use Rattle.std.specs.Prelude.{ℕ, zero, suc, ◌+◌, ◌-◌, ◌*◌, ◌/◌, ◌^◌, min, Bool, ◌&&◌, ◌||◌, List, eqb, ltb, get_or, set, replicate}
use Rattle.std.specs.Int.Count.{ones}
use Rattle.relations.specs.Code.{most_sets}
use Rattle.relations.specs.declared.Joins.{Joins}
use Rattle.relations.specs.Sets.{bit, put, lowest}
use Rattle.relations.specs.Growth.{first, second}
use Rattle.relations.specs.Trees.{is_subquery}
use Rattle.query.specs.Choice.{pick}

-- The lowest of i, i + 1, .. (k of them) that passes the test, and i + k where none does.
unfoldable pub lowest_where : (ℕ → Bool) → (k i : ℕ) → ℕ
lowest_where test zero i = i
lowest_where test (suc k) i = pick (test i) i (lowest_where test k (suc i))

-- Join e links relation r with one of those taken.
unfoldable pub links : Joins → (taken r e : ℕ) → Bool
links J taken r e = (eqb (first J e) r && eqb (bit taken (second J e)) 1) || (eqb (second J e) r && eqb (bit taken (first J e)) 1)

-- The join between relation r and those taken, of which a tree has but one (`OnlyJoin`); the count of joins where r is not adjacent to them.
unfoldable pub join_to : Joins → (taken r : ℕ) → ℕ
join_to J taken r = lowest_where (links J taken r) J.count 0

-- Relation r of S is not yet taken, and is adjacent to those taken.
unfoldable pub may_join_in : Joins → (S taken r : ℕ) → Bool
may_join_in J S taken r = (eqb (bit S r) 1 && eqb (bit taken r) 0) && ltb (join_to J taken r) J.count

-- The lowest-numbered such relation joins in next.
unfoldable pub next : Joins → (n S taken : ℕ) → ℕ
next J n S taken = lowest_where (may_join_in J S taken) n 0

-- The relations of S that are taken after k have joined in: first its lowest.
unfoldable pub taken_after : Joins → (n S k : ℕ) → ℕ
taken_after J n S zero = 2 ^ lowest n S
taken_after J n S (suc k) = put (taken_after J n S k) (next J n S (taken_after J n S k))

-- A size is at most 1,000,000,000.
abbrev pub most_size : ℕ
most_size = 1_000_000_000

-- size × rows / divisor, rounded up, and at most the most that a size may be.
unfoldable pub joined_size : (size rows divisor : ℕ) → ℕ
joined_size size rows divisor = min most_size ((size * rows + (divisor - 1)) / divisor)

-- The size of what is taken: first the rows of the lowest relation; each that joins in brings its rows and the divisor of its join.
unfoldable pub size_after : Joins → (n : ℕ) → (rows divisors : List ℕ) → (S k : ℕ) → ℕ
size_after J n rows divisors S zero = get_or rows (lowest n S) 0
size_after J n rows divisors S (suc k) =
    let taken = taken_after J n S k in
    let r = next J n S taken in
    joined_size (size_after J n rows divisors S k) (get_or rows r 0) (get_or divisors (join_to J taken r) 0)

-- The worked size of a subquery: all of its relations but the first have joined in.
unfoldable pub worked_size : Joins → (n : ℕ) → (rows divisors : List ℕ) → ℕ → ℕ
worked_size J n rows divisors S = size_after J n rows divisors S (ones S - 1)

-- The sizes of the subqueries below m, each at its number; 0 everywhere else.
unfoldable pub sizes_below : Joins → ℕ → (ℕ → ℕ) → ℕ → List ℕ
sizes_below J n size zero = replicate most_sets 0
sizes_below J n size (suc m) = pick (is_subquery J n m) (set (sizes_below J n size m) m (size m)) (sizes_below J n size m)

-- The sizes of all subqueries, worked out.
unfoldable pub worked_sizes : Joins → (n : ℕ) → (rows divisors : List ℕ) → List ℕ
worked_sizes J n rows divisors = sizes_below J n (worked_size J n rows divisors) (2 ^ n)
