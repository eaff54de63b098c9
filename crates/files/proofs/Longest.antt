-- The length of a decoded file, which is the sum of its sections' lengths, and so the longest: each count at its limit, and as many sizes as a tree of
-- that many joins has subqueries.
use Prim.Native.Nat.{ℕ, ◌-◌, ◌*◌, ◌≤◌}
use native.Mathlib.Nat.{mul-le-mul}
use native.Mathlib.Omega.{arith}
use mathlib.Core.Path.{◌≡◌}
use mathlib.Core.List.{List}
use lib.ListN.{length}
use lib.Dec.{eqb}
use lib.Pow.{pow_mono}
use borrow.Author.Tests.{eqb-true}
use Rattle.relations.specs.declared.Joins.{Joins}
use Rattle.relations.specs.Trees.{reaches}
use Rattle.relations.proofs.SubqueriesMost.{subqueries_most}
use Rattle.query.specs.declared.Query.{Query}
use Rattle.query.specs.Query.{Valid, relations_of, sites_of}
use Rattle.query.proofs.Choice.{pick_all}
use Rattle.sections.specs.Fields.{refused}
use Rattle.sections.specs.Sections.{sites_section, relations_section, joins_section, lines_section, delivery_section}
use Rattle.sections.proofs.Gives.{Gives}
use Rattle.decoder.specs.declared.Form.{Form}
use Rattle.decoder.specs.declared.Form.TheVariants as form
use Rattle.decoder.specs.Sizes.{sizes_by}
use Rattle.decoder.specs.Decode.{decode}
use Rattle.decoder.proofs.Valid.{decode_valid}
use Rattle.files.specs.Length.{sizes_length, file_length, longest_file}
use Rattle.files.specs.Theorems.{DecodeLength, LongestFile}
use Rattle.files.proofs.Lengths.{Takes, takes_then}
use Rattle.files.proofs.SectionLengths.{sites_take, relations_take, joins_take, sizes_take, rows_take, lines_take, delivery_takes}

-- The sizes, by the form of the file.
sizes_by_take : (f : Form) (J : Joins) (n : ℕ) → Takes (λ a. sizes_length f J n) (sizes_by f J n)
sizes_by_take form.Sizes J n = sizes_take J n
sizes_by_take form.Rows J n = rows_take J n

-- The sections in reading order, with nothing behind the last.
file_length_lem : (f : Form) (file : List ℕ) → Gives (λ q r. length file ≡ file_length f q) (decode f file)
unfolding decode file_length
file_length_lem f file =
    takes_then _ _ sites_section file _ sites_take λ sites l si.
    takes_then _ _ (relations_section sites.count) l _ (relations_take sites.count) λ relations m ri.
    takes_then _ _ (joins_section relations.count) m _ (joins_take relations.count) λ joins n ji.
    pick_all (Gives (λ q r. length file ≡ file_length f q)) (reaches joins relations.count) _ (refused 4)
    (λ reached.
    takes_then _ _ (sizes_by f joins relations.count) n _ (sizes_by_take f joins relations.count) λ sizes o zi.
    takes_then _ _ (lines_section sites.count) o _ (lines_take sites.count) λ lines p li.
    takes_then _ _ (delivery_section sites.count) p _ (delivery_takes sites.count) λ target r ti.
    pick_all (Gives (λ q r. length file ≡ file_length f q)) (eqb (length r) 0) _ (refused 5) (λ whole. omega (arith, eqb-true (length r) 0 whole)) (λ more. omega arith))
    (λ apart. omega arith)

pub decode_length : DecodeLength
decode_length f file q l e = rw e at (file_length_lem f file)

-- Each count at its limit.
pairs_most : (q : Query) → Valid q → sites_of q * (sites_of q - 1) ≤ 56
pairs_most q v = mul-le-mul {n₁ = sites_of q} {m₁ = sites_of q - 1} {n₂ = 8} {m₂ = 7} v.sites_most (omega arith)

valid_most : (f : Form) (q : Query) → Valid q → file_length f q ≤ longest_file f
unfolding file_length
valid_most form.Sizes q v =
    omega (
      arith,
      v.sites_most,
      v.relations_most,
      v.tree.joins,
      pairs_most q v,
      subqueries_most q.joins (relations_of q) v.tree,
      pow_mono {i = q.joins.count} {j = 8} (omega arith),
    )
valid_most form.Rows q v = omega (arith, pairs_most q v)

pub longest_file_lem : LongestFile
longest_file_lem f file q l e = omega (arith, decode_length f file q l e, valid_most f q (decode_valid f file q l e))
