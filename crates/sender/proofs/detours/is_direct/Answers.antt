-- Two sites have no detour; of more, where all are weighed and none fails.
use mathlib.Core.Path.{refl}
use native.Mathlib.Omega.{arith}
use borrow.Author.Rules.{rules}
use Rattle.std.proofs.lemmas.Iterator.{cases_from_all, YieldsList-from_range}
use Rattle.board.specs.Board.{sites_at}
use Rattle.sender.specs.Detours.{DirectFrom}
use Rattle.sender.proofs.NoDetours.{all_of_range, direct_two}
use Rattle.sender.proofs.detours.is_direct.Goals as goal

pub returns-then-sites-le2 : goal.returns-then-sites-le2
returns-then-sites-le2 c = λ told. direct_two c.args.board.now (omega (arith, c.if-sites-le2.true, c.sites_of-sites.ensures))

pub returns-else-sites-le2 : goal.returns-else-sites-le2
returns-else-sites-le2 c = λ told a low.
    let weighed = cases_from_all _ _ _ (λ x. DirectFrom c.args.board.now x (sites_at c.args.board.now)) (λ x. Unit {0}) c.all.ensures.ran (YieldsList-from_range 0 _ _ refl refl) (λ x q k. search rules) (λ x q k. tt) in
    all_of_range (λ x. DirectFrom c.args.board.now x (sites_at c.args.board.now)) _ _ _ told weighed a (omega (arith, c.sites_of-sites.ensures))
