-- What each item and each section holds once it is read: every number is in its range, and an item uses its nine or two bytes. Each field read is in
-- range, and each item keeps the ranges of what its section has so far.
use Prim.Native.Nat.{ℕ, ◌+◌, ◌-◌, ◌*◌, ◌≤◌}
use native.Mathlib.Omega.{arith}
use mathlib.Core.Path.{◌≡◌}
use mathlib.Core.List.{List}
use lib.Seq.{drop-drop}
use lib.Dec.{eqb}
use Rattle.relations.specs.declared.Joins.{Joins}
use Rattle.relations.specs.Code.{Drawn}
use Rattle.query.specs.declared.Sites.{Sites}
use Rattle.query.specs.declared.Relations.{Relations}
use Rattle.query.specs.declared.Lines.{Lines}
use Rattle.query.specs.Query.{UpTo}
use Rattle.query.specs.Terms.{with_line}
use Rattle.query.specs.Zeros.{no_sites, no_relations, no_joins, no_lines}
use Rattle.query.proofs.Limits.{set_up_to, zeros_up_to}
use Rattle.query.proofs.Linked.{Fair, LinesIn, with_line_lem}
use Rattle.query.proofs.Choice.{pick_all}
use Rattle.sections.specs.Fields.{value, field}
use Rattle.sections.specs.declared.items.Two.{Two}
use Rattle.sections.specs.Sections.{terms, two, with_site, sites_section, with_relation, relations_section}
use Rattle.sections.specs.Sections.{with_join, joins_section, line, sender, lines_section, delivery_section}
use Rattle.sections.proofs.Gives.{Has, Holds, gives_so, gives_items, gives_storing, gives_section, field_held, field_then}

pub terms_held : Holds Fair 9 terms
unfolding terms
terms_held l =
    field_then _ 1 3 0 1 l _ (omega arith) λ flag m e.
    field_then _ 4 3 0 1_000_000 m _ (omega arith) λ fixed n f.
    field_then _ 4 3 0 1_000 n _ (omega arith) λ rate o g.
    (record { fixed_most = f.high_most; rate_most = g.high_most }, rw (g.rest, f.rest, e.rest, drop-drop 4 1 l, drop-drop 4 5 l))

-- Two bytes, each below its limit.
abbrev pub Below : ℕ → ℕ → Two → Type 0
Below a b t = (t.one ≤ a - 1) × (t.other ≤ b - 1)

pub two_held : (a b : ℕ) → Holds (Below a b) 2 (two a b)
unfolding two
two_held a b l =
    field_then _ 1 3 0 (a - 1) l _ (omega arith) λ x m e.
    field_then _ 1 3 0 (b - 1) m _ (omega arith) λ y n f. ((e.high_most, f.high_most), rw (f.rest, e.rest, drop-drop 1 1 l))

-- What each section keeps to, its count first.
pub record SitesIn (a : Sites) : Type 0 where
  pub counts : (1 ≤ a.count) × (a.count ≤ 8)
  pub fixed_most : UpTo 1_000_000 a.fixed
  pub rate_most : UpTo 1_000 a.rate

pub sites_in : (l : List ℕ) → Has SitesIn (sites_section l)
unfolding sites_section
sites_in =
    gives_section Fair SitesIn 9 1 8 no_sites terms with_site terms_held (λ n c. record { counts = c; fixed_most = zeros_up_to _ 8; rate_most = zeros_up_to _ 8 })
    (λ i a t f h. record {
      counts = h.counts;
      fixed_most = set_up_to _ a.fixed i _ f.fixed_most h.fixed_most;
      rate_most = set_up_to _ a.rate i _ f.rate_most h.rate_most;
    })

pub record RelationsIn (s : ℕ) (a : Relations) : Type 0 where
  pub counts : (1 ≤ a.count) × (a.count ≤ 9)
  pub homes : UpTo (s - 1) a.home

pub relations_in : (s : ℕ) (l : List ℕ) → Has (RelationsIn s) (relations_section s l)
unfolding relations_section
relations_in s =
    gives_section (Below s 2) (RelationsIn s) 2 1 9 no_relations (two s 2) with_relation (two_held s 2) (λ n c. record { counts = c; homes = zeros_up_to _ 9 })
    (λ i a t b h. record { counts = h.counts; homes = set_up_to _ a.home i _ b.0 h.homes })

pub record JoinsIn (n : ℕ) (a : Joins) : Type 0 where
  pub counts : (n - 1 ≤ a.count) × (a.count ≤ n - 1)
  pub firsts : UpTo (n - 1) a.first
  pub seconds : UpTo (n - 1) a.second

pub joins_in_lem : (n : ℕ) (l : List ℕ) → Has (JoinsIn n) (joins_section n l)
unfolding joins_section
joins_in_lem n =
    gives_section (Below n n) (JoinsIn n) 2 (n - 1) (n - 1) no_joins (two n n) with_join (two_held n n)
    (λ m c. record { counts = c; firsts = zeros_up_to _ 8; seconds = zeros_up_to _ 8 })
    (λ i a t b h. record {
      counts = h.counts;
      firsts = set_up_to _ a.first i _ b.0 h.firsts;
      seconds = set_up_to _ a.second i _ b.1 h.seconds;
    })

-- Joins that were read can be grown along.
pub joins_drawn : (n : ℕ) → (1 ≤ n) × (n ≤ 9) → (l r : List ℕ) (J : Joins) → value J r ≡ joins_section n l → Drawn J × (J.count + 1 ≡ n)
joins_drawn n b l r J e =
    let k : JoinsIn n J = rw (← e) at (joins_in_lem n l) in
    (record { few = omega (arith, k.counts); first_in = λ i h. omega (arith, k.counts, k.firsts i); second_in = λ i h. omega (arith, k.counts, k.seconds i) }, omega (arith, k.counts))

line_keeps : (a b : ℕ) (ls : Lines) (l : List ℕ) → LinesIn ls → Has LinesIn (line a b ls l)
unfolding line
line_keeps a b ls l h =
    pick_all (Has LinesIn) (eqb a b) _ _ (λ t. h)
    (λ t. gives_storing Fair LinesIn 9 terms (with_line a) terms_held (λ i b t f u. with_line_lem a i b t f u) b ls l h)

sender_keeps : (s a : ℕ) (ls : Lines) (l : List ℕ) → LinesIn ls → Has LinesIn (sender s a ls l)
unfolding sender
sender_keeps s a ls l h = gives_items LinesIn (line a) (line_keeps a) s 0 ls l h

pub lines_in : (s : ℕ) (l : List ℕ) → Has LinesIn (lines_section s l)
unfolding lines_section
lines_in s l =
    field_then _ 1 2 (s * (s - 1)) (s * (s - 1)) l _ (omega arith) λ v m c.
    gives_items LinesIn (sender s) (sender_keeps s) s 0 no_lines m (record { fixed_most = zeros_up_to _ 64; rate_most = zeros_up_to _ 64 })

pub delivery_in : (s : ℕ) (l : List ℕ) → Has (λ t. t ≤ s - 1) (delivery_section s l)
unfolding delivery_section
delivery_in s l = field_then _ 1 2 1 1 l _ (omega arith) λ v m c. gives_so _ _ (field 1 3 0 (s - 1) m) (field_held 1 3 0 (s - 1) m (omega arith)) λ t r d. d.high_most
