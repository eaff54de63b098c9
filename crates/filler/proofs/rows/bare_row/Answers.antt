-- `rows::bare_row` meets its contract: each lane is what the closure answers there. Assumes nothing.
use borrow.Author.Rules.{rules}
use Rattle.relations.proofs.Made.{made_listed}
use Rattle.filler.specs.Trials.{bare_at}
use Rattle.sender.proofs.Rows.{lanes_marked}
use Rattle.filler.proofs.Trying.{bare_most}
use Rattle.filler.proofs.rows.bare_row.Goals as goal

pub returns : goal.returns
returns c =
    let l = made_listed _ (bare_at c.args.homes) _ (λ k y q h. (search rules, search rules)) _ _ c.from_fn.ensures.items in
    (l, lanes_marked _ _ l (bare_most _))
