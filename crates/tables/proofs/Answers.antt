-- The answers of the vectors hold, by computation.
use mathlib.Core.Path.{◌≡◌, refl}
use mathlib.Core.Bool.{true, ◌&&◌}
use lib.Count.{ones, ones_in, count_trailing_zeros}
use Rattle.relations.specs.Sets.{bit, put}
use Rattle.relations.specs.Growth.{inside, leads, step, grow}
use Rattle.relations.specs.Trees.{is_subquery, part}
use Rattle.query.specs.Query.{home, index, may_join, join_fixed, join_rate, is_open, line_fixed, line_rate, size}
use Rattle.query.specs.Prices.{parcels, line_price, sending, reads, join_price, indexed}
use Rattle.rules.specs.Machine as machine
use Rattle.rules.specs.Allowed as plans
use Rattle.routes.specs.Least.{best}
use Rattle.routes.specs.Routes.{by_sends, cheapest_route, fewest_sends, next_site, stops}
use Rattle.tables.specs.Tables.{by_join, joined_by, delivered_by, delivered_up_to, delivered, joined, joins_below}
use Rattle.tables.specs.Written.{best_site, best_join, joined_steps, delivered_steps, steps_up_to, written_delivered}
use Rattle.tables.specs.Vectors.{vectors, answered, every_answered, round_trip}

pub vectors_hold : (every_answered vectors && round_trip) ≡ true
unfolding ones ones_in count_trailing_zeros bit put inside leads step grow is_subquery part home index may_join join_fixed join_rate is_open line_fixed line_rate size parcels line_price sending reads join_price indexed best by_sends cheapest_route fewest_sends next_site stops by_join joined_by delivered_by delivered_up_to delivered joined joins_below best_site best_join joined_steps delivered_steps steps_up_to written_delivered machine.load machine.send_top machine.send machine.links machine.qualifies machine.join_top machine.join machine.step plans.finish plans.run plans.checked answered
vectors_hold = refl
