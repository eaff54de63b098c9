-- `filling::fill_set` meets its contract: what is stored is delivered from the row that the set starts from. Assumes nothing.
use Rattle.filler.proofs.CellsStored.{stored_start}
use Rattle.filler.proofs.filling.fill_set.Goals as goal

pub returns : goal.returns
returns c = stored_start _ _ _ _ _ _ _ _ _ _ c.start_row-row.ensures.0 c.size_of-size.ensures c.deliver.ensures
