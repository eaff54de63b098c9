-- Every decoded query is valid, and a file that gives none is refused with 1 to 5: the sections' ranges, in reading order, make up what a query keeps to.
use Prim.Native.Nat.{ℕ}
use native.Mathlib.Omega.{arith}
use mathlib.Core.List.{List}
use lib.ListN.{length}
use lib.Dec.{eqb}
use Rattle.relations.specs.Trees.{reaches}
use Rattle.query.specs.Query.{Valid, home}
use Rattle.query.proofs.Choice.{pick_all}
use Rattle.sections.specs.Fields.{refused}
use Rattle.sections.specs.Sections.{sites_section, relations_section, joins_section, lines_section, delivery_section}
use Rattle.sections.proofs.Gives.{Has, gives_then}
use Rattle.sections.proofs.Ranges.{sites_in, relations_in, joins_in_lem, lines_in, delivery_in}
use Rattle.decoder.specs.declared.Form.{Form}
use Rattle.decoder.specs.Sizes.{sizes_by}
use Rattle.decoder.specs.Decode.{decode}
use Rattle.decoder.specs.Theorems.{DecodeValid}
use Rattle.decoder.proofs.RowRanges.{sizes_by_in}

pub file_in : (f : Form) (file : List ℕ) → Has Valid (decode f file)
unfolding decode home
file_in f file =
    gives_then _ _ (sites_section file) _ (sites_in file) λ sites l si.
    gives_then _ _ (relations_section sites.count l) _ (relations_in sites.count l) λ relations m ri.
    gives_then _ _ (joins_section relations.count m) _ (joins_in_lem relations.count m) λ joins n ji.
    pick_all (Has Valid) (reaches joins relations.count) _ (refused 4)
    (λ reached.
    gives_then _ _ (sizes_by f joins relations.count n) _ (sizes_by_in f joins relations.count n) λ sizes o zi.
    gives_then _ _ (lines_section sites.count o) _ (lines_in sites.count o) λ lines p li.
    gives_then _ _ (delivery_section sites.count p) _ (delivery_in sites.count p) λ target r ti.
    pick_all (Has Valid) (eqb (length r) 0) _ (refused 5)
    (λ whole. record {
      sites_some = si.counts.0;
      sites_most = si.counts.1;
      relations_most = ri.counts.1;
      tree = record {
        joins = omega (arith, ji.counts, ri.counts);
        first_in = λ i h. omega (arith, ji.firsts i, ri.counts);
        second_in = λ i h. omega (arith, ji.seconds i, ri.counts);
        reached = reached;
      };
      homes = λ i h. omega (arith, ri.homes i, si.counts);
      target_in = omega (arith, ti, si.counts);
      sizes_most = zi;
      join_fixed_most = si.fixed_most;
      join_rate_most = si.rate_most;
      line_fixed_most = li.fixed_most;
      line_rate_most = li.rate_most;
    })
    (λ more. omega arith))
    (λ apart. omega arith)

pub decode_valid : DecodeValid
decode_valid f file q l e = rw e at (file_in f file)
