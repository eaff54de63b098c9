-- The eleven rows hold, by computation.
use mathlib.Core.Path.{◌≡◌, refl}
use mathlib.Core.Bool.{true}
use lib.Count.{ones, ones_in, count_trailing_zeros}
use Rattle.relations.specs.Sets.{bit, put}
use Rattle.relations.specs.Growth.{inside, leads, step, grow}
use Rattle.relations.specs.Trees.{is_subquery, count_below, part}
use Rattle.query.specs.Query.{home, index, may_join, join_fixed, join_rate, is_open, line_fixed, line_rate, size}
use Rattle.query.specs.Prices.{parcels, line_price, sending, reads, join_price, indexed}
use Rattle.routes.specs.Least.{best}
use Rattle.routes.specs.Routes.{by_sends, cheapest_route, fewest_sends, next_site, stops}
use Rattle.tables.specs.Tables.{by_join, joined_by, delivered_by, delivered_up_to, delivered, joined, joins_below}
use Rattle.tables.specs.Written.{best_site, best_join, joined_steps, delivered_steps, steps_up_to, written_delivered}
use Rattle.tables.specs.Rows.{rows, holds, every}

pub rows_hold : every rows ≡ true
unfolding ones ones_in count_trailing_zeros bit put inside leads step grow is_subquery count_below part home index may_join join_fixed join_rate is_open line_fixed line_rate size parcels line_price sending reads join_price indexed best by_sends cheapest_route fewest_sends next_site stops by_join joined_by delivered_by delivered_up_to delivered joined joins_below best_site best_join joined_steps delivered_steps steps_up_to written_delivered holds
rows_hold = refl
