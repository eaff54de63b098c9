-- `read_sender` reads the lines of one sender: the loop has the answer of the lines from receiver b on.
use Prim.Native.Nat.{◌-◌}
use mathlib.Core.Path.{◌≡◌}
use Rattle.sections.specs.Fields.{items}
use Rattle.sections.specs.Sections.{line, sender}
use Rattle.sections.proofs.line_section.read_sender.Given as goal

abbrev pub invariant-loop-b : goal.invariant-loop-b
invariant-loop-b l = sender l.s l.a l.fn.lines l.fn.part ≡ items (line l.a) (l.s - l.b) l.b l.lines l.part
