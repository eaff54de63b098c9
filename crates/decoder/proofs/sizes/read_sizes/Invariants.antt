-- `read_sizes` reads the section Sizes: the loop has the answer of the sets from the one that it is at.
use Prim.Native.Nat.{◌+◌, ◌-◌, ◌^◌}
use mathlib.Core.Path.{◌≡◌}
use Rattle.sections.specs.Fields.{items}
use Rattle.decoder.specs.Sizes.{sized, sizes_section}
use Rattle.decoder.proofs.sizes.read_sizes.Given as goal

abbrev pub invariant-loop-set : goal.invariant-loop-set
invariant-loop-set l =
    sizes_section l.fn.joins (l.fn.joins.count + 1) l.fn.part ≡ items (sized l.fn.joins (l.fn.joins.count + 1)) (2 ^ (l.fn.joins.count + 1) - l.set) l.set l.sizes l.part
