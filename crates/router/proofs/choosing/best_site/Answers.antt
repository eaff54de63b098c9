-- Each site is weighed by the routes from there.
use Prim.Native.Nat.{ℕ, ◌+◌, ◌*◌}
use lib.ListN.{get_or}
use borrow.Author.Rules.{rules}
use Rattle.board.specs.Figures.{least_of}
use Rattle.board.specs.Board.{sites_at}
use Rattle.router.proofs.Weighed.{sites_weighed}
use Rattle.router.proofs.choosing.best_site.Goals as goal

pub returns : goal.returns
returns c =
    sites_weighed _ _ _ _ _ _ _ c.routes_to-table.ensures c.sites_of.ensures
    (c.least_at.ensures (λ (j : ℕ). get_or c.args.row.now j 0 + least_of (λ (i : ℕ). get_or c.routes_to-table.result (8 * i + j) 0) (sites_at c.args.sending.board.now)) (λ k v low made. search rules))
