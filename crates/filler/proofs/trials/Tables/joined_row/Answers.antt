-- `joined_row` meets its contract: two lanes, four or all eight. Assumes nothing.
use native.Mathlib.Omega.{arith}
use Rattle.filler.proofs.Places.{reach_else}
use Rattle.filler.proofs.trials.Tables.joined_row.Goals as goal

pub joined_lanes-requires-in_default : goal.joined_lanes-requires-in_default
joined_lanes-requires-in_default c = (c.requires, reach_else _ c.requires.some_site (λ h. grind (arith, h, c.in_default)) (λ h. grind (arith, h, c.in_default)))
