-- The dearest plan costs `most_cost`, by computation; the query keeps to the limits, list by list.
use mathlib.Core.Path.{refl}
use native.Mathlib.Omega.{arith}
use lib.Count.{ones, ones_in, count_trailing_zeros}
use Rattle.relations.specs.Sets.{bit, put}
use Rattle.relations.specs.Growth.{inside, leads, step, grow}
use Rattle.relations.specs.Trees.{Tree, reaches}
use Rattle.query.specs.Query.{home, index, may_join, join_fixed, join_rate, is_open, line_fixed, line_rate, size}
use Rattle.query.specs.Prices.{parcels, line_price, reads, join_price, indexed}
use Rattle.query.proofs.Limits.{up_to_each}
use Rattle.rules.specs.Machine as machine
use Rattle.rules.specs.Allowed as plans
use Rattle.tables.specs.Rows.{chain_of_nine}
use Rattle.tables.specs.Dearest.{at_the_limits, MostReached}

chain_tree : Tree chain_of_nine 9
unfolding bit put inside leads step grow reaches
chain_tree =
    record {
      joins = refl;
      first_in = λ e h. omega (arith, up_to_each 8 chain_of_nine.first refl e);
      second_in = λ e h. omega (arith, up_to_each 8 chain_of_nine.second refl e);
      reached = refl;
    }

pub most_reached : MostReached
unfolding ones ones_in count_trailing_zeros bit home index may_join join_fixed join_rate is_open line_fixed line_rate size parcels line_price reads join_price indexed machine.load machine.send_top machine.send machine.links machine.qualifies machine.join_top machine.join machine.step plans.finish plans.run plans.checked
most_reached =
    record {
      valid =
          record {
            sites_some = omega arith;
            sites_most = omega arith;
            relations_most = omega arith;
            tree = chain_tree;
            homes = λ r h. omega (arith, up_to_each 0 at_the_limits.relations.home refl r);
            target_in = omega arith;
            sizes_most = up_to_each _ at_the_limits.sizes refl;
            join_fixed_most = up_to_each _ at_the_limits.sites.fixed refl;
            join_rate_most = up_to_each _ at_the_limits.sites.rate refl;
            line_fixed_most = up_to_each _ at_the_limits.lines.fixed refl;
            line_rate_most = up_to_each _ at_the_limits.lines.rate refl;
          };
      reached = refl;
    }
