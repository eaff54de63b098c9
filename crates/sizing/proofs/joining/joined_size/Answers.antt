-- The quotient, rounded up and cut, is the size.
use Rattle.sizing.proofs.Products.{cut_is}
use Rattle.sizing.proofs.joining.joined_size.Goals as goal

pub returns : goal.returns
returns c = cc (cut_is c.args.size c.args.rows c.args.divisor c.requires.divisor_in_range.0)
