-- Which sets are subqueries in a tree: each single relation, all relations; and one of two relations or more has a join, since it has
-- one join fewer than relations.
use Prim.Native.Nat.{◌-◌, ◌^◌}
use native.Mathlib.Omega.{arith}
use lib.Pow.{pow-lt}
use Rattle.relations.specs.Theorems.{SubqueriesLaw}
use Rattle.relations.proofs.Bits.{all_below}
use Rattle.relations.proofs.Connected.{of_conn, conn_single, conn_all, subquery_range}
use Rattle.relations.proofs.JoinCounts.{joins_count, some_of_joins}

pub subqueries_law : SubqueriesLaw
subqueries_law J n t = record {
  single = λ r l. of_conn J n (2 ^ r) (pow-lt l) (conn_single J r);
  whole = of_conn J n (2 ^ n - 1) (all_below n) (conn_all J n t);
  range = λ S s. subquery_range J n S s;
  some_join = λ S s h. some_of_joins J S J.count (omega (arith, joins_count J n t S s));
}
