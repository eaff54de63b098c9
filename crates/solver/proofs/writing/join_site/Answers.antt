-- `writing::join_site` meets its contract: the row of the joins is worked out again, and the lowest site from where the figure is reached is chosen.
-- Assumes nothing.
use native.Mathlib.Omega.{arith}
use Rattle.rules.proofs.Combinations.{plus_combines}
use Rattle.solver.proofs.Choices.{known_low, joinable, carriable, site_figure, site_by_lem}
use Rattle.router.proofs.Gates.{site_carried}
use Rattle.solver.proofs.writing.join_site.Goals as goal

pub joined_row-row-requires : goal.joined_row-row-requires
joined_row-row-requires c = joinable _ plus_combines _ _ _ c.requires.1.0.known _ c.joins_within.ensures.0

pub size_of-requires : goal.size_of-requires
size_of-requires c = known_low _ plus_combines _ _ _ c.requires.1.0.known

pub invariant_of-sending : goal.invariant_of-sending
invariant_of-sending c = record { carriable = carriable _ plus_combines _ _ _ c.requires.1.0.known _ c.size_of.ensures }

pub site_for-requires : goal.site_for-requires
site_for-requires c =
    let p = c.requires.1 in let d = p.0 in record {
      marked = (c.joined_row-row.ensures.1, omega (arith, d.listed, d.known.laid.board.sites));
      least = site_figure _ plus_combines _ _ _ d.known _ _ _ _ _ c.joins_within.ensures.0 c.joined_row-row.ensures.0 c.size_of.ensures d.listed p.1 d.cost_is;
    }

pub returns : goal.returns
returns c =
    let p = c.requires.1 in let d = p.0 in
    let f = site_figure _ plus_combines _ _ _ d.known _ _ _ _ _ c.joins_within.ensures.0 c.joined_row-row.ensures.0 c.size_of.ensures d.listed p.1 d.cost_is in (
      site_by_lem _ _ _ _ _ _ _ _ c.joins_within.ensures.0 c.joined_row-row.ensures.0 c.size_of.ensures c.site_for.ensures.at_is,
      rw (← c.size_of.ensures) (site_carried _ _ _ _ _ f.0 f.1 _ c.site_for.ensures),
    )
