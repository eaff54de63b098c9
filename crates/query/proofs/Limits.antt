-- Lists up to a limit.
use Prim.Native.Nat.{ℕ, zero, suc, ◌≤◌, zero-le}
use mathlib.Core.Path.{◌≡◌}
use mathlib.Core.Bool.{Bool, true, ◌&&◌}
use mathlib.Core.List.{List, [], ◌∷◌}
use lib.Dec.{leb}
use lib.ListN.{set, replicate}
use borrow.Author.Tests.{leb-true}
use Rattle.relations.proofs.Leads.{both_true}
use Rattle.query.specs.Query.{UpTo}

-- A list up to a limit stays so with a number up to the limit put at any place.
pub set_up_to : (limit : ℕ) (l : List ℕ) (i v : ℕ) → v ≤ limit → UpTo limit l → UpTo limit (set l i v)
set_up_to limit [] i v h u j = u j
set_up_to limit (x ∷ l) zero v h u zero = h
set_up_to limit (x ∷ l) zero v h u (suc j) = u (suc j)
set_up_to limit (x ∷ l) (suc i) v h u zero = u zero
set_up_to limit (x ∷ l) (suc i) v h u (suc j) = set_up_to limit l i v h (λ m. u (suc m)) j

-- Zeros are up to every limit.
pub zeros_up_to : (limit n : ℕ) → UpTo limit (replicate n 0)
zeros_up_to limit zero i = zero-le
zeros_up_to limit (suc n) zero = zero-le
zeros_up_to limit (suc n) (suc i) = zeros_up_to limit n i

-- A list is up to a limit where each of its numbers is, by computation.
abbrev pub each_up_to : ℕ → List ℕ → Bool
each_up_to limit [] = true
each_up_to limit (x ∷ xs) = leb x limit && each_up_to limit xs

pub up_to_each : (limit : ℕ) (l : List ℕ) → each_up_to limit l ≡ true → UpTo limit l
up_to_each limit [] e i = zero-le
up_to_each limit (x ∷ xs) e zero = leb-true x limit (both_true (leb x limit) (each_up_to limit xs) e).0
up_to_each limit (x ∷ xs) e (suc i) = up_to_each limit xs (both_true (leb x limit) (each_up_to limit xs) e).1 i
