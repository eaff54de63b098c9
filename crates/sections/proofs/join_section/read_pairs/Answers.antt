-- `read_pairs` ends with joins that can be grown along, as the section has them.
use Rattle.std.proofs.Common.{rules}
use Rattle.sections.proofs.Loops.{items_done}
use Rattle.sections.proofs.Ranges.{joins_drawn}
use Rattle.sections.proofs.join_section.read_pairs.Goals as goal

pub returns-clause-drawn : goal.returns-clause-drawn
returns-clause-drawn c = joins_drawn _ c.requires _ _ _ (items_done _ _ _ _ _ _ c.loop-i.invariant.0 (search rules))
