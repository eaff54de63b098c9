-- `delivering::deliver` meets its contract: what is stored is the row of what is delivered, either way. Assumes nothing.
use Rattle.filler.proofs.delivering.deliver.Goals as goal

pub direct_row-cells-requires : goal.direct_row-cells-requires
direct_row-cells-requires c = let p = c.requires.0.1 in (p.0, p.1 c.if-direct.true)
