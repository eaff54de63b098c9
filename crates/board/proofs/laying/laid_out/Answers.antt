-- Each step lays its rows and leaves those before it, so the board is the query's.
use mathlib.Core.Path.{refl}
use Rattle.board.proofs.LaidBoard.{board_laid}
use Rattle.board.proofs.laying.laid_out.Goals as goal

pub returns : goal.returns
returns c = board_laid _ c.requires _ _ _ _ _ refl c.lay_joining.ensures c.lay_relations.ensures c.lay_pairs.ensures c.lay_lines.ensures
