-- Laws of the bytes of steps.
use Prim.Native.Nat.{ℕ, ◌*◌, ◌≤◌}
use native.Mathlib.Omega.{arith}
use mathlib.Core.Path.{◌≡◌, refl, ap}
use mathlib.Core.List.{List, [], ◌∷◌, ◌++◌}
use lib.ListN.{length}
use Rattle.rules.specs.Allowed.{most_steps, longest_plan, steps_of}
use Rattle.tables.specs.Written.{step_bytes, plan_bytes}
use Rattle.rules.specs.Machine.{Step}

pub step_bytes_append : (xs ys : List Step) → step_bytes (xs ++ ys) ≡ step_bytes xs ++ step_bytes ys
step_bytes_append [] ys = refl
step_bytes_append (x ∷ xs) ys = ap (λ (l : List ℕ). x.kind ∷ (x.arg ∷ l)) (step_bytes_append xs ys)

pub step_bytes_long : (xs : List Step) → length (step_bytes xs) ≡ 2 * length xs
step_bytes_long [] = refl
step_bytes_long (x ∷ xs) = omega (arith, step_bytes_long xs)

-- A plan of at most `most_steps` steps has at most `longest_plan` bytes.
pub plan_bytes_most : (xs : List Step) → length xs ≤ most_steps → length (plan_bytes xs) ≤ longest_plan
plan_bytes_most xs few = omega (arith, step_bytes_long xs)

-- A plan's bytes are read back as its steps.
pub steps_back : (xs : List Step) → steps_of (step_bytes xs) ≡ xs
steps_back [] = refl
steps_back (x ∷ xs) = rw (steps_back xs)
