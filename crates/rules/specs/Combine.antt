-- What a combination of two operands' figures must keep to. For costs it is the sum.
use Rattle.std.specs.Prelude.{ℕ, ◌+◌, ◌≤◌, ◌≡◌}

-- It rises with either figure, their order does not matter, it is no less than either and no more than both together.
pub record Combines (combine : ℕ → ℕ → ℕ) : Type 0 where
  pub mono : (a b x y : ℕ) → a ≤ x → b ≤ y → combine a b ≤ combine x y
  pub comm : (a b : ℕ) → combine a b ≡ combine b a
  pub least : (a b : ℕ) → a ≤ combine a b
  pub most : (a b : ℕ) → combine a b ≤ a + b
