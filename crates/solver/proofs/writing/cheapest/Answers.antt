-- `writing::cheapest` meets its contract: the least figure from the row that all relations start from is what the query costs. Assumes nothing.
use Prim.Native.Nat.{ℕ, ◌+◌, ◌<◌}
use mathlib.Core.Path.{◌≡◌}
use mathlib.Core.List.{List}
use Rattle.relations.specs.Sets.{all}
use Rattle.query.specs.declared.Query.{Query}
use Rattle.query.specs.Query.{relations_of}
use Rattle.board.specs.Board.{joins_at}
use Rattle.filler.specs.Filling.{LaidOut, Filled}
use native.Mathlib.Omega.{arith}
use Rattle.rules.proofs.Combinations.{plus_combines}
use Rattle.filler.specs.Trials.{lent}
use Rattle.solver.specs.Writing.{Known}
use Rattle.solver.proofs.Choices.{known_low, startable, carriable}
use Rattle.solver.proofs.WholePlan.{known, whole_figure}
use Rattle.solver.proofs.writing.cheapest.Goals as goal

-- All relations are known of the query that the caller has.
here :
    (board sizes places work : List ℕ) (target m every : ℕ) → m ≡ joins_at board → every ≡ all (m + 1) →
    (p : (q : Query) × ((LaidOut q (lent board sizes places work) × Filled ◌+◌ q places work (all (relations_of q))) × (q.target ≡ target))) →
    Known ◌+◌ p.0 (lent board sizes places work) every × (target < 8)
here board sizes places work target m every joins is p =
    (known _ plus_combines _ target _ _ joins is p.0 p.1.0.0 p.1.0.1, omega (arith, p.1.1, p.1.0.0.valid.target_in, p.1.0.0.valid.sites_most))

pub start_row-row-requires : goal.start_row-row-requires
start_row-row-requires c = startable ◌+◌ plus_combines _ _ _ (here _ _ _ _ c.args.target _ _ c.joins_of.ensures c.whole-every.ensures c.requires).0 _ c.joins_within.ensures.0

pub size_of-requires : goal.size_of-requires
size_of-requires c = known_low ◌+◌ plus_combines _ _ _ (here _ _ _ _ c.args.target _ _ c.joins_of.ensures c.whole-every.ensures c.requires).0

pub invariant_of-sending : goal.invariant_of-sending
invariant_of-sending c = record { carriable = carriable ◌+◌ plus_combines _ _ _ (here _ _ _ _ c.args.target _ _ c.joins_of.ensures c.whole-every.ensures c.requires).0 _ c.size_of.ensures }

pub returns : goal.returns
returns c =
    λ q laid filled to.
    whole_figure ◌+◌ plus_combines _ _ _ _ c.joins_of.ensures c.whole-every.ensures q laid filled to _ _ _ _ c.joins_within.ensures.0 c.start_row-row.ensures.0
    c.size_of.ensures c.routed_row-cells.ensures
