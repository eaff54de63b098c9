-- The vectors hold, by computation.
use mathlib.Core.Path.{◌≡◌, refl}
use mathlib.Core.Bool.{true}
use lib.Count.{ones, ones_in, count_trailing_zeros}
use Rattle.relations.specs.Sets.{bit, put}
use Rattle.relations.specs.Growth.{inside, leads, step, grow}
use Rattle.relations.specs.Trees.{is_subquery, count_below, reaches}
use Rattle.sections.specs.Fields.{number, field, items, storing, section}
use Rattle.sections.specs.Sections.{two, joins_section}
use Rattle.tables.specs.Tables.{joins_below}
use Rattle.room.specs.Room.{in_limits, room}
use Rattle.room.specs.Vectors.{vectors, answered, every_answered}

pub vectors_hold : every_answered vectors ≡ true
unfolding ones ones_in count_trailing_zeros bit put inside leads step grow is_subquery count_below reaches number field items storing section two joins_section joins_below in_limits room answered
vectors_hold = refl
