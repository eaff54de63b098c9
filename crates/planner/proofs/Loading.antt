-- An admitted load from row counts is that of the ordinary file, since both files hold the same query.
use Rattle.files.proofs.RowsAsSizes.{rows_as_sizes}
use Rattle.planner.specs.Load.{load_by, LoadRowsLaw}

pub load_rows_law : LoadRowsLaw
unfolding load_by
load_rows_law file q l e s = rw (e, rows_as_sizes file q l e)
