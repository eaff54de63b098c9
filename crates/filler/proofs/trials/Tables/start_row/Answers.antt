-- `start_row` meets its contract: the row is that of its one relation or that of its joins. Assumes nothing.
use Rattle.query.proofs.Indexed.{one_of_nine}
use Rattle.filler.proofs.CellsStored.{start_bare, start_joined}
use Rattle.filler.proofs.trials.Tables.start_row.Goals as goal

pub homes_at-requires : goal.homes_at-requires
homes_at-requires c = one_of_nine _ (c.requires.alone c.if-joins-eq0.true) c.requires.set_in

pub returns-then-joins-eq0 : goal.returns-then-joins-eq0
returns-then-joins-eq0 c = (start_bare _ _ _ _ _ _ _ c.if-joins-eq0.true c.homes_at.ensures c.bare_row.ensures.0 c.requires.joinable.few_sites, c.bare_row.ensures.1)

pub returns : goal.returns
returns c = (start_joined _ _ _ _ _ _ c.if-joins-eq0.false c.joined_row.ensures.0, c.joined_row.ensures.1)
