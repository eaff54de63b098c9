-- What is proved of worked sizes. The proofs are in proofs/.
use Rattle.std.specs.Prelude.{ℕ, ◌+◌, ◌-◌, ◌*◌, ◌^◌, ◌≤◌, ◌<◌, ◌≡◌, true, List}
use Rattle.std.specs.Int.Count.{ones}
use Rattle.relations.specs.declared.Joins.{Joins}
use Rattle.relations.specs.Sets.{bit}
use Rattle.relations.specs.Trees.{Tree, Subquery}
use Rattle.query.specs.Query.{UpTo}
use Rattle.sizing.specs.Worked.{links, taken_after, most_size, joined_size, worked_sizes}
use Rattle.sizing.specs.Code.{Counts}

-- In a tree the join that takes a relation in is the only one between it and those taken.
abbrev pub OnlyJoin : Type 0
OnlyJoin =
    (J : Joins) (n : ℕ) → Tree J n → (taken r : ℕ) → Subquery J n taken → r < n → bit taken r ≡ 0 → (e i : ℕ) → e < J.count → i < J.count →
    links J taken r e ≡ true → links J taken r i ≡ true → e ≡ i

-- Those taken are a subquery at every step, one more each time; after the last step all relations of S are in.
pub record Steps (J : Joins) (n S : ℕ) : Type 0 where
  pub taken_connected : (k : ℕ) → k < ones S → Subquery J n (taken_after J n S k)
  pub taken_count : (k : ℕ) → k < ones S → ones (taken_after J n S k) ≡ k + 1
  pub all_in : taken_after J n S (ones S - 1) ≡ S

abbrev pub StepsLaw : Type 0
StepsLaw = (J : Joins) (n : ℕ) → Tree J n → (S : ℕ) → Subquery J n S → Steps J n S

-- A product of a size and rows stays below 2^60.
abbrev pub ProductFits : Type 0
ProductFits = (size rows : ℕ) → size ≤ most_size → rows ≤ 1_000_000 → size * rows < 2 ^ 60

-- Rounded up: the size is the least whose product with the divisor is no less than that of size and rows, or the most where that is greater.
pub record RoundedUp (size rows divisor : ℕ) : Type 0 where
  pub most : joined_size size rows divisor ≤ most_size
  pub enough : joined_size size rows divisor < most_size → size * rows ≤ joined_size size rows divisor * divisor
  pub least : (x : ℕ) → x < joined_size size rows divisor → x * divisor < size * rows

abbrev pub RoundedUpLaw : Type 0
RoundedUpLaw = (size rows divisor : ℕ) → 1 ≤ divisor → RoundedUp size rows divisor

-- No worked size is above the most that a size may be.
abbrev pub WorkedMost : Type 0
WorkedMost = (J : Joins) (n : ℕ) (rows divisors : List ℕ) → Counts rows → UpTo most_size (worked_sizes J n rows divisors)
