-- `choosing::once_sent` meets its contract: nothing where it stays, else the line. Assumes nothing.
use native.Mathlib.Omega.{arith}
use mathlib.Core.Path.{◌∙◌}
use Rattle.router.proofs.FewestSends.{once_stays, once_away}
use Rattle.router.proofs.choosing.once_sent.Goals as goal

pub returns-then-k-t : goal.returns-then-k-t
returns-then-k-t c = (once_stays _ _ _ _ c.if-k-t.true, omega arith)

pub returns : goal.returns
returns c = (c.line_at-sent.ensures.0 ∙ once_away _ _ _ _ c.if-k-t.false, omega (arith, c.line_at-sent.ensures.1))
