-- The vectors, by computation.
use mathlib.Core.Path.{refl}
use lib.Count.{ones, ones_in, count_trailing_zeros}
use Rattle.relations.specs.Sets.{bit, put}
use Rattle.relations.specs.Growth.{inside, leads, step, grow}
use Rattle.relations.specs.Trees.{is_subquery}
use Rattle.sizing.specs.Worked.{lowest_where, links, join_to, may_join_in, next, taken_after, joined_size, size_after, worked_size, sizes_below, worked_sizes}
use Rattle.sizing.specs.Vectors.{Vectors}

pub vectors_hold : Vectors
unfolding ones ones_in count_trailing_zeros bit put inside leads step grow is_subquery lowest_where links join_to may_join_in next taken_after joined_size size_after worked_size sizes_below worked_sizes
vectors_hold = record {
  cut_at_each_step = refl;
  rounded_at_each_step = refl;
  branched_whole = refl;
  branched_first = refl;
  branched_second = refl;
  branched_third = refl;
  branched_last = refl;
  crossed_whole = refl;
  star_whole = refl;
  alone = refl;
  just_most = refl;
  past_most = refl;
  below_most = refl;
  below_one = refl;
  all_sets = refl;
}
