-- Worked sizes that were worked out by hand. `vectors_hold` in proofs/ computes them all from the definition.
use Rattle.std.specs.Prelude.{ℕ, ◌≡◌, List, [], ◌∷◌, take, replicate}
use Rattle.relations.specs.declared.Joins.{Joins}
use Rattle.sizing.specs.Worked.{taken_after, joined_size, worked_size, worked_sizes}

abbrev pub joins_of : (count : ℕ) → (first second : List ℕ) → Joins
joins_of count first second = record { count = count; first = first; second = second }

-- The chain 0, 1, 2.
abbrev pub chain : Joins
chain = joins_of 2 (0 ∷ 1 ∷ []) (1 ∷ 2 ∷ [])

-- Joins (0, 2), (2, 1), (0, 3): relation 2 stands between 0 and 1.
abbrev pub branched : Joins
branched = joins_of 3 (0 ∷ 2 ∷ 0 ∷ []) (2 ∷ 1 ∷ 3 ∷ [])

-- Joins (0, 2), (0, 1): join 1 takes relation 1 in before join 0 takes relation 2 in.
abbrev pub crossed : Joins
crossed = joins_of 2 (0 ∷ 0 ∷ []) (2 ∷ 1 ∷ [])

-- Relation 8 in the middle of a star.
abbrev pub star : Joins
star = joins_of 8 (8 ∷ 8 ∷ 8 ∷ 8 ∷ 8 ∷ 8 ∷ 8 ∷ 8 ∷ []) (0 ∷ 1 ∷ 2 ∷ 3 ∷ 4 ∷ 5 ∷ 6 ∷ 7 ∷ [])

pub record Vectors : Type 0 where
  -- 10^6 × 10^6 is cut to 10^9, and 10^9 × 1 / 10^6 is 1,000; cut only at the end it would be 10^6.
  pub cut_at_each_step : worked_size chain 3 (1_000_000 ∷ 1_000_000 ∷ 1 ∷ []) (1 ∷ 1_000_000 ∷ []) 7 ≡ 1_000
  -- 1 × 1 / 2 is 1, and 1 × 5 / 2 is 3; rounded only at the end it would be 2.
  pub rounded_at_each_step : worked_size chain 3 (1 ∷ 1 ∷ 5 ∷ []) (2 ∷ 2 ∷ []) 7 ≡ 3
  -- 0, then 2 (3 × 1 / 1 is 3), then 1 (3 × 1 / 2 is 2), then 3 (2 × 5 / 3 is 4).
  pub branched_whole : worked_size branched 4 (3 ∷ 1 ∷ 1 ∷ 5 ∷ []) (1 ∷ 2 ∷ 3 ∷ []) 15 ≡ 4
  pub branched_first : taken_after branched 4 15 0 ≡ 1
  pub branched_second : taken_after branched 4 15 1 ≡ 5
  pub branched_third : taken_after branched 4 15 2 ≡ 7
  pub branched_last : taken_after branched 4 15 3 ≡ 15
  -- 0, then 1 (1 × 1 / 2 is 1), then 2 (1 × 3 / 1 is 3); with 2 before 1, by the lowest join or the highest relation, it would be 2.
  pub crossed_whole : worked_size crossed 3 (1 ∷ 1 ∷ 3 ∷ []) (1 ∷ 2 ∷ []) 7 ≡ 3
  -- Leaves of 4 rows, divisors 3: 0, then 8 (4 × 1 / 3 is 2), then 1 to 7: 3, 4, 6, 8, 11, 15, 20.
  pub star_whole : worked_size star 9 (4 ∷ 4 ∷ 4 ∷ 4 ∷ 4 ∷ 4 ∷ 4 ∷ 4 ∷ 1 ∷ []) (3 ∷ 3 ∷ 3 ∷ 3 ∷ 3 ∷ 3 ∷ 3 ∷ 3 ∷ []) 511 ≡ 20
  -- One relation has its rows.
  pub alone : worked_size (joins_of 0 [] []) 1 (7 ∷ []) [] 1 ≡ 7
  -- A step at and beside the limits: 10^9 is not cut, 10^9 + 1 is; nothing is divided by 1; a quotient below 1 is 1.
  pub just_most : joined_size 1_000_000_000 1 1 ≡ 1_000_000_000
  pub past_most : joined_size 1_000_000_000 1_000_000 999_999 ≡ 1_000_000_000
  pub below_most : joined_size 1_000_000_000 999_999 1_000_000 ≡ 999_999_000
  pub below_one : joined_size 1 1 1_000_000 ≡ 1
  -- All sets of the chain with rows 10, 4, 6 and divisors 16, 5, in lists of nine as they are read: relations 0 and 2 are no subquery.
  pub all_sets : take 9 (worked_sizes chain 3 (10 ∷ 4 ∷ 6 ∷ replicate 6 1) (16 ∷ 5 ∷ replicate 7 1)) ≡ 0 ∷ 10 ∷ 4 ∷ 3 ∷ 6 ∷ 0 ∷ 5 ∷ 4 ∷ 0 ∷ []
