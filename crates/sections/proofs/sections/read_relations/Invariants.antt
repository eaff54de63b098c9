-- `read_relations` reads the section Relations: the loop has the answer of the items from relation i on.
use Prim.Native.Nat.{◌-◌}
use mathlib.Core.Path.{◌≡◌}
use Rattle.sections.specs.Fields.{items, storing}
use Rattle.sections.specs.Sections.{two, with_relation, relations_section}
use Rattle.sections.proofs.sections.read_relations.Given as goal

abbrev pub invariant-loop-i : goal.invariant-loop-i
invariant-loop-i l =
    (l.relations.count ≡ l.count) × (relations_section l.s l.fn.part ≡ items (storing (two l.s 2) with_relation) (l.count - l.i) l.i l.relations l.left)
