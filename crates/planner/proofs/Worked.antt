-- The calls on Q, by computation.
use mathlib.Core.Path.{refl}
use lib.Count.{ones, ones_in, count_trailing_zeros}
use Rattle.relations.specs.Sets.{bit, put}
use Rattle.relations.specs.Growth.{inside, leads, step, grow}
use Rattle.relations.specs.Trees.{is_subquery, count_below, reaches, part}
use Rattle.sections.specs.Fields.{number, field, items, storing, section}
use Rattle.sections.specs.Sections.{terms, two, sites_section, relations_section, joins_section, line, sender, lines_section, delivery_section}
use Rattle.decoder.specs.Sizes.{sized, sizes_section, counts_section, rows_sections}
use Rattle.decoder.specs.Decode.{decode}
use Rattle.files.specs.Ordinary.{bytes_of, amounts, sizes_bytes, ordinary}
use Rattle.sizing.specs.Worked.{lowest_where, links, join_to, may_join_in, next, taken_after, joined_size, size_after, worked_size, sizes_below, worked_sizes}
use Rattle.query.specs.Query.{home, index, may_join, join_fixed, join_rate, is_open, line_fixed, line_rate, size}
use Rattle.query.specs.Prices.{parcels, line_price, sending, reads, join_price, indexed}
use Rattle.rules.specs.Machine as machine
use Rattle.rules.specs.Allowed as plans
use Rattle.routes.specs.Least.{best}
use Rattle.routes.specs.Routes.{by_sends, cheapest_route, fewest_sends, next_site, stops}
use Rattle.tables.specs.Tables.{by_join, joined_by, delivered_by, delivered_up_to, delivered, joined, joins_below}
use Rattle.tables.specs.Written.{best_site, best_join, joined_steps, delivered_steps, steps_up_to, written_delivered}
use Rattle.tables.specs.Work.{cells_needed}
use Rattle.planner.specs.Load.{load_by}
use Rattle.planner.specs.Link.{sites_listed, terms_in_range, link}
use Rattle.planner.specs.Solve.{solve}
use Rattle.planner.specs.Check.{check}
use Rattle.planner.specs.Worked.{Worked}

pub worked : Worked
unfolding ones ones_in count_trailing_zeros bit put inside leads step grow is_subquery count_below reaches part number field items storing section terms two sites_section relations_section joins_section sized sizes_section line sender lines_section delivery_section counts_section rows_sections decode bytes_of amounts sizes_bytes ordinary lowest_where links join_to may_join_in next taken_after joined_size size_after worked_size sizes_below worked_sizes home index may_join join_fixed join_rate is_open line_fixed line_rate size parcels line_price sending reads join_price indexed machine.load machine.send_top machine.send machine.links machine.qualifies machine.join_top machine.join machine.step plans.finish plans.run plans.checked best by_sends cheapest_route fewest_sends next_site stops by_join joined_by delivered_by delivered_up_to delivered joined joins_below best_site best_join joined_steps delivered_steps steps_up_to written_delivered cells_needed load_by sites_listed terms_in_range link solve check
worked = record {
  q_length = refl;
  q_decoded = refl;
  q_ordinary = refl;
  load_q = refl;
  load_rows_q = refl;
  solve_q = refl;
  solve_q_just = refl;
  check_q = refl;
  link_row5 = refl;
  check_row5 = refl;
  solve_row5 = refl;
  link_row6 = refl;
  solve_row6 = refl;
  solve_row6_short = refl;
  load_again = refl;
  link_20 = refl;
  solve_20 = refl;
  check_20 = refl;
  solve_21 = refl;
  solve_21_row6 = refl;
  solve_23 = refl;
  solve_23_none = refl;
  used_20 = refl;
  used_21 = refl;
  used_q = refl;
  load_1 = refl;
  load_2 = refl;
  load_3 = refl;
  load_4 = refl;
  load_5 = refl;
  load_rows_1 = refl;
  load_rows_2 = refl;
  load_rows_2_divisors = refl;
  load_rows_3 = refl;
  load_rows_3_divisor = refl;
  load_rows_4 = refl;
  load_rows_5 = refl;
  load_of_rows = refl;
  load_rows_of_sizes = refl;
  link_6 = refl;
  link_6_twice = refl;
  link_3 = refl;
  check_7 = refl;
  check_137 = refl;
  check_136 = refl;
  check_8 = refl;
  check_9 = refl;
  check_10 = refl;
  check_11 = refl;
  check_12 = refl;
}
