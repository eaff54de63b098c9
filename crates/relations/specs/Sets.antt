-- A set of relations (or of sites) is its number: the sum of 2^r over its members r.
-- Nothing here knows how many relations there are: a law that needs a limit takes it as a parameter.
use Rattle.std.specs.Prelude.{ℕ, ◌+◌, ◌-◌, ◌/◌, ◌%◌, ◌^◌, ◌≤◌}
use Rattle.std.specs.Int.Bits.{bit_or}
use Rattle.std.specs.Int.Count.{count_trailing_zeros}

-- Membership as a number: 1 where r is in S, else 0.
unfoldable pub bit : ℕ → ℕ → ℕ
bit S r = S / 2 ^ r % 2

-- Each member of A is in B.
abbrev pub Sub : ℕ → ℕ → Type 0
Sub A B = (r : ℕ) → bit A r ≤ bit B r

-- A and B share no member.
abbrev pub Apart : ℕ → ℕ → Type 0
Apart A B = (r : ℕ) → bit A r + bit B r ≤ 1

-- The set of all of 0 to n - 1.
abbrev pub all : ℕ → ℕ
all n = 2 ^ n - 1

-- S with r, whether r was in it or not.
unfoldable pub put : ℕ → ℕ → ℕ
put S r = bit_or S (2 ^ r)

-- The lowest member of a set below 2^n, and n for the empty set.
abbrev pub lowest : ℕ → ℕ → ℕ
lowest n S = count_trailing_zeros n S
