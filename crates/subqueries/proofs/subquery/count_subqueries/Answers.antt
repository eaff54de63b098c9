-- The entries that pass the test are those of the subqueries.
use mathlib.Core.Path.{◌≡◌, ◌∙◌}
use native.Mathlib.Omega.{arith}
use borrow.Author.Rules.{rules}
use lib.ListN.{take}
use Rattle.std.specs.List.{count_by}
use Rattle.relations.proofs.Loops.{few_sets}
use Rattle.subqueries.specs.Table.{is_connected}
use Rattle.subqueries.proofs.Counting.{counted}
use Rattle.subqueries.proofs.subquery.count_subqueries.Goals as goal

pub shared_ref_as_front-sets : goal.shared_ref_as_front-sets
shared_ref_as_front-sets c = omega (arith, c.single.ensures, few_sets c.args.joins.count c.requires.few)

pub returns : goal.returns
returns c =
    let passing : c.count.result ≡ count_by is_connected (take c.single.result c.args.table.now) = search rules in
    passing ∙ rw c.single.ensures (counted _ _ c.requires _ (omega arith))
