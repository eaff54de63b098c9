-- What solve answers hangs on the query, the cells and the length of the output, not on what the output holds: solving again into the
-- same output answers the same.
use Prim.Native.Nat.{ℕ, ◌+◌}
use mathlib.Core.Path.{◌≡◌, refl}
use mathlib.Core.List.{List}
use mathlib.Core.Option.{none, some}
use lib.ListN.{length}
use lib.Dec.{ltb}
use Rattle.query.specs.declared.Query.{Query}
use Rattle.query.specs.Cost.{Cost}
use Rattle.query.proofs.Choice.{pick_both}
use Rattle.tables.specs.Tables.{cheapest, trials}
use Rattle.tables.specs.Written.{written}
use Rattle.tables.specs.Work.{cells_needed}
use Rattle.planner.specs.State.{State}
use Rattle.planner.specs.Solve.{Solving, writing, solved, solve}

abbrev SameAnswer : Solving → Solving → Type 0
SameAnswer x y = x.answer ≡ y.answer

module _ (out other : List ℕ) (same : length out ≡ length other) where
  writing_again : (c t : ℕ) (plan : List ℕ) → (writing c t plan out).answer ≡ (writing c t plan other).answer
  writing_again c t plan = rw same (pick_both SameAnswer (ltb (length other) (length plan)) refl refl)

  solved_again : (q : Query) (c : Cost) → (solved q c out).answer ≡ (solved q c other).answer
  solved_again q Cost.none = refl
  solved_again q (Cost.some c) = writing_again c (trials q) (written ◌+◌ q)

  pub solve_again : (n : ℕ) (s : State) → (solve n out s).answer ≡ (solve n other s).answer
  unfolding solve
  solve_again n none = refl
  solve_again n (some q) = pick_both SameAnswer (ltb n (cells_needed q)) refl (solved_again q (cheapest ◌+◌ q))
