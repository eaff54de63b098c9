-- `read_sites` reads the section Sites: the loop has the answer of the items from site i on.
use Prim.Native.Nat.{◌-◌}
use mathlib.Core.Path.{◌≡◌}
use Rattle.sections.specs.Fields.{items, storing}
use Rattle.sections.specs.Sections.{terms, with_site, sites_section}
use Rattle.sections.proofs.sections.read_sites.Given as goal

abbrev pub invariant-loop-i : goal.invariant-loop-i
invariant-loop-i l =
    (l.sites.count ≡ l.count) × (sites_section l.fn.part ≡ items (storing terms with_site) (l.count - l.i) l.i l.sites l.left)
