-- `joined_lanes` meets its contract: each turn tries the lowest join that is left. Assumes nothing.
use native.Mathlib.Omega.{arith}
use mathlib.Core.Path.{refl, ap, ◌∙◌}
use Rattle.relations.specs.Splits.{parts_by}
use Rattle.board.specs.Board.{sites_at}
use Rattle.sender.proofs.Rows.{tried_done}
use Rattle.filler.proofs.Places.{reach_least, reach_eight}
use Rattle.filler.proofs.Joins.{joined_none, joined_done, next_low, next_parts, next_asks, joined_more}
use Rattle.filler.proofs.trials.Tables.joined_lanes.Goals as goal

pub loop-left-init : goal.loop-left-init
loop-left-init g c = joined_none _ _ _ _ _ (omega arith) c.requires.0

pub side_at-requires : goal.side_at-requires
side_at-requires g c = next_low _ _ _ _ _ _ c.loop-left.invariant c.loop-left-test.true

pub spared_row-requires : goal.spared_row-requires
spared_row-requires g c = next_parts _ _ _ _ _ _ c.loop-left.invariant c.loop-left-test.true c.requires.0 _ (c.split-parts.ensures ∙ ap (parts_by _) c.side_at.ensures)

pub try_lanes-requires : goal.try_lanes-requires
try_lanes-requires g c =
    let p = c.requires in (
      (c.loop-left.invariant.marked, omega (arith, p.1, reach_eight (sites_at c.args.self.now.board.now))),
      λ k low. next_asks _ _ _ _ _ _ c.loop-left.invariant c.loop-left-test.true p.0 _ _ (c.split-parts.ensures ∙ ap (parts_by _) c.side_at.ensures) c.spared_row.ensures.0 k (omega (arith, p.1)),
    )

pub loop-left-preserved : goal.loop-left-preserved
loop-left-preserved g c = joined_more _ _ _ _ _ _ c.loop-left.invariant c.loop-left-test.true _ _ _ _ (c.split-parts.ensures ∙ ap (parts_by _) c.side_at.ensures) c.spared_row.ensures.0 refl
    (tried_done _ _ _ _ _ c.try_lanes.ensures (omega (arith, c.requires.1, reach_least _ c.requires.0.few_sites)))

pub returns : goal.returns
returns g c = joined_done _ _ _ _ _ _ c.loop-left.invariant c.loop-left-test.false
