-- What the sections before the sizes used of a decoded file: each is local, so the file is split into the bytes of one after another, and each used as many
-- bytes as it takes.
use Prim.Native.Nat.{ℕ}
use native.Mathlib.Omega.{arith}
use mathlib.Core.Path.{◌≡◌, ap, ◌∙◌}
use mathlib.Core.List.{List, ◌++◌}
use lib.ListN.{length, length-append}
use Rattle.query.specs.declared.Query.{Query}
use Rattle.query.specs.Query.{relations_of, sites_of}
use Rattle.sections.specs.Fields.{Read, value}
use Rattle.sections.specs.Sections.{sites_section, relations_section, joins_section}
use Rattle.decoder.specs.declared.Form.{Form}
use Rattle.files.specs.Length.{section_length}
use Rattle.files.proofs.Lengths.{Takes}
use Rattle.files.proofs.SectionLengths.{sites_take, relations_take, joins_take}
use Rattle.files.proofs.Local.{Splits}
use Rattle.files.proofs.LocalSections.{sites_local, relations_local, joins_local}
use Rattle.files.proofs.InOrder.{Sections}

-- A local reading used as many bytes as it takes.
pub used_length :
    {A : Type 0} (size : A → ℕ) (read : List ℕ → Read A) (l : List ℕ) (a : A) (r : List ℕ) → Takes size read → read l ≡ value a r → (s : Splits read l a r) →
    length s.used ≡ size a
used_length size read l a r takes e s = omega (arith, rw e at (takes l), length-append s.used r, ap length s.is)

module _ {f : Form} {file : List ℕ} {q : Query} {l : List ℕ} (p : Sections f file q l) where
  pub sites : Splits sites_section file q.sites p.sites_left
  sites = sites_local file q.sites p.sites_left p.sites_are

  pub relations : Splits (relations_section (sites_of q)) p.sites_left q.relations p.relations_left
  relations = relations_local (sites_of q) p.sites_left q.relations p.relations_left p.relations_are

  pub joins : Splits (joins_section (relations_of q)) p.relations_left q.joins p.joins_left
  joins = joins_local (relations_of q) p.relations_left q.joins p.joins_left p.joins_are

  pub sites_length : length sites.used ≡ section_length 9 (sites_of q)
  sites_length = used_length _ _ file q.sites p.sites_left sites_take p.sites_are sites

  pub relations_length : length relations.used ≡ section_length 2 (relations_of q)
  relations_length = used_length _ _ p.sites_left q.relations p.relations_left (relations_take (sites_of q)) p.relations_are relations

  pub joins_length : length joins.used ≡ section_length 2 q.joins.count
  joins_length = used_length _ _ p.relations_left q.joins p.joins_left (joins_take (relations_of q)) p.joins_are joins

  pub before_sizes_lem : file ≡ sites.used ++ (relations.used ++ (joins.used ++ p.joins_left))
  before_sizes_lem = sites.is ∙ ap (λ (m : List ℕ). sites.used ++ m) (relations.is ∙ ap (λ (m : List ℕ). relations.used ++ m) joins.is)
