-- A file with row counts holds what the ordinary file holds that has the sizes instead: the sections before them are local, so they give the same whatever
-- follows, the sizes are read from their bytes as they were worked out, and what follows them is the same.
use Prim.Native.Nat.{ℕ, ◌+◌, ◌-◌}
use native.Mathlib.Omega.{arith}
use mathlib.Core.Path.{◌≡◌, ap, ◌∙◌}
use mathlib.Core.List.{List, ◌++◌, append_assoc}
use lib.ListN.{length, take, drop, length-append}
use lib.Seq.{take_at, drop_at}
use lib.Pow.{pow_mono}
use Rattle.relations.specs.declared.Joins.{Joins}
use Rattle.relations.proofs.SubqueriesMost.{subqueries_most}
use Rattle.query.specs.declared.Query.{Query}
use Rattle.query.specs.Query.{Valid, relations_of}
use Rattle.sizing.proofs.Most.{SizesIn, worked_sizes_is}
use Rattle.sections.specs.Fields.{value}
use Rattle.sections.proofs.Gives.{Has, gives_then}
use Rattle.decoder.specs.declared.Form.TheVariants as form
use Rattle.decoder.specs.Sizes.{sizes_section, counts_section, rows_sections}
use Rattle.decoder.proofs.RowRanges.{counts_in}
use Rattle.decoder.proofs.Valid.{decode_valid}
use Rattle.files.specs.Length.{before_sizes, rows_length}
use Rattle.files.specs.Ordinary.{sizes_bytes, lines_from, ordinary}
use Rattle.files.specs.Theorems.{RowsAsSizes}
use Rattle.files.proofs.SectionLengths.{rows_take}
use Rattle.files.proofs.Local.{Splits}
use Rattle.files.proofs.LocalSections.{rows_local}
use Rattle.files.proofs.InOrder.{Sections, sections_of, by_sections}
use Rattle.files.proofs.Used.{used_length, sites, relations, joins, sites_length, relations_length, joins_length, before_sizes_lem}
use Rattle.files.proofs.SizesWritten.{sizes_again}

-- Sizes that were worked out from row counts and divisors stand at the subqueries.
worked_in : (J : Joins) (n : ℕ) (l : List ℕ) → Has (SizesIn J n) (rows_sections J n l)
unfolding rows_sections
worked_in J n l =
    gives_then _ _ (counts_section n l) _ (counts_in n l) λ rows m r.
    gives_then _ _ (counts_section (n - 1) m) _ (counts_in (n - 1) m) λ divisors o d. worked_sizes_is J n rows divisors

-- A list of five parts, with another part in the place of the fourth.
replaced :
    (a b c d new r : List ℕ) (k m : ℕ) → length (a ++ (b ++ c)) ≡ k → k + length d ≡ m →
    take k (a ++ (b ++ (c ++ (d ++ r)))) ++ (new ++ drop m (a ++ (b ++ (c ++ (d ++ r))))) ≡ a ++ (b ++ (c ++ (new ++ r)))
replaced a b c d new r k m e f =
    let before : a ++ (b ++ (c ++ (d ++ r))) ≡ (a ++ (b ++ c)) ++ (d ++ r) = simp append_assoc in
    let through : a ++ (b ++ (c ++ (d ++ r))) ≡ ((a ++ (b ++ c)) ++ d) ++ r = simp append_assoc in
    let front : take k (a ++ (b ++ (c ++ (d ++ r)))) ≡ a ++ (b ++ c) = ap (take k) before ∙ take_at (a ++ (b ++ c)) (d ++ r) k e in
    let back : drop m (a ++ (b ++ (c ++ (d ++ r)))) ≡ r =
    ap (drop m) through ∙ drop_at ((a ++ (b ++ c)) ++ d) r m (omega (arith, length-append (a ++ (b ++ c)) d)) in
    rw (front, back) (simp append_assoc)

module _ (file : List ℕ) (q : Query) (l : List ℕ) (v : Valid q) (p : Sections form.Rows file q l) where
  rows : Splits (rows_sections q.joins (relations_of q)) p.joins_left q.sizes p.sizes_left
  rows = rows_local q.joins (relations_of q) p.joins_left q.sizes p.sizes_left p.sizes_are

  used_before : length ((sites p).used ++ ((relations p).used ++ (joins p).used)) ≡ before_sizes q
  used_before =
      omega (
        arith,
        length-append (sites p).used ((relations p).used ++ (joins p).used),
        length-append (relations p).used (joins p).used,
        sites_length p,
        relations_length p,
        joins_length p,
      )

  used_rows : length rows.used ≡ rows_length (relations_of q)
  used_rows = used_length _ _ p.joins_left q.sizes p.sizes_left (rows_take q.joins (relations_of q)) p.sizes_are rows

  file_is : file ≡ (sites p).used ++ ((relations p).used ++ ((joins p).used ++ (rows.used ++ p.sizes_left)))
  file_is = before_sizes_lem p ∙ ap (λ (m : List ℕ). (sites p).used ++ ((relations p).used ++ ((joins p).used ++ m))) rows.is

  ordinary_is : ordinary q file ≡ (sites p).used ++ ((relations p).used ++ ((joins p).used ++ (sizes_bytes q ++ p.sizes_left)))
  unfolding ordinary
  ordinary_is =
      ap (ordinary q) file_is
      ∙ replaced (sites p).used (relations p).used (joins p).used rows.used (sizes_bytes q) p.sizes_left (before_sizes q) (lines_from q) used_before
      (omega (arith, used_rows))

  sizes_read : sizes_section q.joins (relations_of q) (sizes_bytes q ++ p.sizes_left) ≡ value q.sizes p.sizes_left
  sizes_read =
      sizes_again q (rw p.sizes_are at (worked_in q.joins (relations_of q) p.joins_left)) v.sizes_most
      (pow_mono {i = relations_of q} {j = 9} v.relations_most) p.sizes_left
      (omega (arith, v.tree.joins, subqueries_most q.joins (relations_of q) v.tree, pow_mono {i = q.joins.count} {j = 8} (omega arith)))

  ordinary_sections : Sections form.Sizes ((sites p).used ++ ((relations p).used ++ ((joins p).used ++ (sizes_bytes q ++ p.sizes_left)))) q l
  ordinary_sections = record {
    sites_left = (relations p).used ++ ((joins p).used ++ (sizes_bytes q ++ p.sizes_left));
    relations_left = (joins p).used ++ (sizes_bytes q ++ p.sizes_left);
    joins_left = sizes_bytes q ++ p.sizes_left;
    sizes_left = p.sizes_left;
    sites_are = (sites p).again _;
    relations_are = (relations p).again _;
    joins_are = (joins p).again _;
    reached = p.reached;
    sizes_are = sizes_read;
    rest_is = p.rest_is;
  }

pub rows_as_sizes : RowsAsSizes
rows_as_sizes file q l e =
    let v = decode_valid form.Rows file q l e in
    let p = sections_of form.Rows file q l e in
    rw (ordinary_is file q l v p) (by_sections form.Sizes _ q l (ordinary_sections file q l v p))
