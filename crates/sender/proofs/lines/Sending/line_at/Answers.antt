-- `lines::Sending::line_at` meets its contract: the line's row and lane lie on the board, and the price is the definition. Assumes nothing.
use native.Mathlib.Omega.{arith}
use Rattle.sender.proofs.LinePrices.{line_asks, line_is}
use Rattle.sender.proofs.lines.Sending.line_at.Goals as goal

pub returns : goal.returns
returns c =
    let p = line_asks _ _ _ _ c.args.self.carriable c.requires.0 c.requires.1 in
    (line_is _ _ _ _ _ c.line_price.ensures.0, omega (arith, c.line_price.ensures.1, p.0))
