-- A decoded file, section by section: what each section up to the sizes gave of the query, what it left, and that the rest gave the query. A file is decoded
-- exactly where its sections are so.
use Prim.Native.Nat.{ℕ}
use mathlib.Core.Path.{◌≡◌, refl, sym, ap, subst, ◌∙◌}
use mathlib.Core.Bool.{Bool, true, false}
use mathlib.Core.List.{List, []}
use lib.ListN.{length}
use lib.Dec.{eqb}
use Rattle.relations.specs.declared.Joins.{Joins}
use Rattle.relations.specs.Trees.{reaches}
use Rattle.relations.proofs.Leads.{clash}
use Rattle.query.specs.declared.Sites.{Sites}
use Rattle.query.specs.declared.Relations.{Relations}
use Rattle.query.specs.declared.Lines.{Lines}
use Rattle.query.specs.declared.Query.{Query}
use Rattle.query.specs.Choice.{pick}
use Rattle.query.specs.Query.{relations_of, sites_of}
use Rattle.sections.specs.Fields.{Read, refused, value, and_then}
use Rattle.sections.specs.Sections.{sites_section, relations_section, joins_section, lines_section, delivery_section}
use Rattle.decoder.specs.declared.Form.{Form}
use Rattle.decoder.specs.Sizes.{sizes_by}
use Rattle.decoder.specs.Decode.{after_delivery, after_lines, after_sizes, after_joins, after_relations, after_sites, decode}
use Rattle.files.proofs.Local.{came}

pub record Sections (f : Form) (file : List ℕ) (q : Query) (l : List ℕ) : Type 0 where
  pub sites_left : List ℕ
  pub relations_left : List ℕ
  pub joins_left : List ℕ
  pub sizes_left : List ℕ
  pub sites_are : sites_section file ≡ value q.sites sites_left
  pub relations_are : relations_section (sites_of q) sites_left ≡ value q.relations relations_left
  pub joins_are : joins_section (relations_of q) relations_left ≡ value q.joins joins_left
  pub reached : reaches q.joins (relations_of q) ≡ true
  pub sizes_are : sizes_by f q.joins (relations_of q) joins_left ≡ value q.sizes sizes_left
  pub rest_is : after_sizes q.sites q.relations q.joins q.sizes sizes_left ≡ value q l

-- A test that picks a value or a refusal picked the value.
picked : {A C : Type 0} (b : Bool) (x : Read A) (k : ℕ) (a : A) (r : List ℕ) → pick b x (refused k) ≡ value a r → (b ≡ true → x ≡ value a r → C) → C
picked true x k a r e so = so refl e
picked false x k a r e so = absurd (clash (cc))

same_value : {A : Type 0} (a b : A) (l r : List ℕ) → value a l ≡ value b r → a ≡ b
same_value a b l r e = cc

abbrev whole : Sites → Relations → Joins → List ℕ → Lines → ℕ → Query
whole sites relations joins sizes lines target = record { sites = sites; relations = relations; joins = joins; sizes = sizes; lines = lines; target = target }

pub sections_of : (f : Form) (file : List ℕ) (q : Query) (l : List ℕ) → decode f file ≡ value q l → Sections f file q l
unfolding decode
sections_of f file q l e =
    came (sites_section file) (after_sites f) q l e λ sites m s e.
    came (relations_section sites.count m) (after_relations f sites) q l e λ relations n r e.
    came (joins_section relations.count n) (after_joins f sites relations) q l e λ joins o j e.
    picked (reaches joins relations.count) (and_then (sizes_by f joins relations.count o) (after_sizes sites relations joins)) 4 q l e λ t e.
    came (sizes_by f joins relations.count o) (after_sizes sites relations joins) q l e λ sizes p z rest.
    came (lines_section sites.count p) (after_lines sites relations joins sizes) q l rest λ lines u k e.
    came (delivery_section sites.count u) (λ target l. after_delivery (whole sites relations joins sizes lines target) l) q l e λ target v d e.
    picked (eqb (length v) 0) (value (whole sites relations joins sizes lines target) []) 5 q l e λ w e.
    let is : whole sites relations joins sizes lines target ≡ q = same_value (whole sites relations joins sizes lines target) q [] l e in
    subst (λ (x : Query). Sections f file x l) is (record {
      sites_left = m;
      relations_left = n;
      joins_left = o;
      sizes_left = p;
      sites_are = s;
      relations_are = r;
      joins_are = j;
      reached = t;
      sizes_are = z;
      rest_is = rest ∙ ap (λ (x : Query). value x l) (sym is);
    })

pub by_sections : (f : Form) (file : List ℕ) (q : Query) (l : List ℕ) → Sections f file q l → decode f file ≡ value q l
unfolding decode
by_sections f file q l p = rw (p.sites_are, p.relations_are, p.joins_are, p.reached, p.sizes_are) p.rest_is
