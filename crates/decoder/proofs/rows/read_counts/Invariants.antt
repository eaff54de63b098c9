-- `read_counts` reads the section Rows or Divisors: the loop has the answer of the items from number i on.
use Prim.Native.Nat.{◌-◌}
use mathlib.Core.Path.{◌≡◌}
use Rattle.sections.specs.Fields.{from_one_to, items, storing}
use Rattle.decoder.specs.Sizes.{with_number, counts_section}
use Rattle.decoder.proofs.rows.read_counts.Given as goal

abbrev pub invariant-loop-i : goal.invariant-loop-i
invariant-loop-i l = counts_section l.due l.fn.part ≡ items (storing (from_one_to 1_000_000) with_number) (l.count - l.i) l.i l.counts l.part
