-- `read_lines` reads the section Lines: the loop has the answer of the senders from a on.
use Prim.Native.Nat.{◌-◌}
use mathlib.Core.Path.{◌≡◌}
use Rattle.sections.specs.Fields.{items}
use Rattle.sections.specs.Sections.{sender, lines_section}
use Rattle.sections.proofs.line_section.read_lines.Given as goal

abbrev pub invariant-loop-a : goal.invariant-loop-a
invariant-loop-a l = lines_section l.s l.fn.part ≡ items (sender l.s) (l.s - l.a) l.a l.lines l.left
