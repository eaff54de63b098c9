-- `filling::fill` meets its contract: each turn fills the cells of one set more, and the sets below the next one stay filled. Assumes nothing.
use Prim.Native.Nat.{ℕ, ◌+◌, ◌≤◌, ◌<◌}
use mathlib.Core.Path.{◌≡◌}
use mathlib.Core.List.{List}
use Rattle.relations.specs.Code.{most_sets}
use Rattle.relations.specs.Sets.{all}
use Rattle.query.specs.declared.Query.{Query}
use Rattle.query.specs.Query.{relations_of}
use Rattle.filler.specs.Trials.{lent}
use Rattle.filler.specs.Filling.{Fillable}
use Rattle.filler.proofs.SetsFilled.{Going}
use Rattle.filler.proofs.filling.fill.Given as goal

-- What holds of every query of which the loop holds the lists.
abbrev Reached : (board sizes table before old : List ℕ) → (end : ℕ) → (places work : List ℕ) → (tried next set : ℕ) → Type 0
Reached board sizes table before old end places work tried next set =
    (q : Query) → Fillable q (lent board sizes before old) table → (end ≡ all (relations_of q)) × Going ◌+◌ q old work places set next tried

abbrev pub invariant-loop-set : goal.invariant-loop-set
invariant-loop-set l = ((1 ≤ l.end) × (l.end < most_sets)) × Reached l.board l.sizes l.table l.initial.places l.initial.work l.end l.places l.work l.tried l.next l.set
