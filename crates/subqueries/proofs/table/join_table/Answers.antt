-- The loop has the sets of the relations below r.
use Prim.Native.Nat.{ℕ, ◌+◌, ◌^◌}
use mathlib.Core.Path.{◌≡◌, refl, subst}
use borrow.Author.Rules.{rules}
use native.Mathlib.Omega.{arith}
use Rattle.relations.proofs.Listed.{listed_front}
use Rattle.subqueries.specs.Table.{TableOf}
use Rattle.subqueries.proofs.Doubling.{table_none, table_more, table_roomy}
use Rattle.subqueries.proofs.table.join_table.Goals as goal

pub loop-r-init : goal.loop-r-init
loop-r-init c = table_none _ _ refl refl

pub add_relation-requires : goal.add_relation-requires
add_relation-requires c =
    let d = c.requires in
    (table_roomy _ _ _ _ c.loop-r.invariant d.few (search rules) c.single.ensures, omega (arith, d.few, (listed_front _ _ _ _ c.ends-around.ensures d.few).long))

pub loop-r-preserved : goal.loop-r-preserved
loop-r-preserved c = table_more _ _ _ _ _ _ c.loop-r.invariant (listed_front _ _ _ _ c.ends-around.ensures c.requires.few) c.single.ensures c.add_relation.ensures

pub returns-2 : goal.returns-2
returns-2 c =
    let last : c.loop-r.r ≡ c.args.joins.count = omega arith in
    subst (λ (k : ℕ). TableOf c.args.joins c.add_relation.new.table (2 ^ (k + 1))) last
    (table_more _ _ _ _ _ _ c.loop-r.invariant (listed_front _ _ _ _ c.ends-around.ensures c.requires.few) c.single.ensures c.add_relation.ensures)
