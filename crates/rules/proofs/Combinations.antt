-- The sum is a combination of two operands' figures.
use Prim.Native.Nat.{◌+◌}
use native.Mathlib.Nat.{add_comm, le_refl}
use native.Mathlib.Omega.{arith}
use Rattle.rules.specs.Combine.{Combines}

pub plus_combines : Combines ◌+◌
plus_combines = record { mono = λ a b x y l m. omega arith; comm = add_comm; least = λ a b. omega arith; most = λ a b. le_refl (a + b) }
