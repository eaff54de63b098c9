-- `read_pairs` reads the joins behind their count: the loop has the answer of the items from join i on.
use Prim.Native.Nat.{◌+◌, ◌*◌, ◌-◌}
use mathlib.Core.Path.{◌≡◌}
use mathlib.Core.List.{◌∷◌}
use lib.ListN.{length}
use Rattle.sections.specs.Fields.{items, storing}
use Rattle.sections.specs.Sections.{two, with_join, joins_section}
use Rattle.sections.proofs.join_section.read_pairs.Given as goal

abbrev pub invariant-loop-i : goal.invariant-loop-i
invariant-loop-i l =
    (joins_section l.n ((l.n - 1) ∷ l.fn.part) ≡ items (storing (two l.n l.n) with_join) (l.count - l.i) l.i l.joins l.left)
    × (length l.fn.part ≡ length l.left + 2 * l.i)
