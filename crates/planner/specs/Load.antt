-- Load, and load from row counts: each replaces the query and answers n and the number of subqueries. The refusals are those of the file, by its form.
use Rattle.std.specs.Prelude.{ℕ, List, ◌≡◌}
use Rattle.std.proofs.Math.Option.{some}
use Rattle.relations.specs.Trees.{subqueries}
use Rattle.query.specs.declared.Query.{Query}
use Rattle.query.specs.Query.{relations_of}
use Rattle.sections.specs.Fields.{Read, value}
use Rattle.sections.specs.Fields as fields
use Rattle.decoder.specs.Decode.{decode}
use Rattle.decoder.specs.declared.Form.{Form}
use Rattle.decoder.specs.declared.Form.TheVariants as form
use Rattle.files.specs.Ordinary.{ordinary}
use Rattle.planner.specs.State.{State}
use Rattle.planner.specs.Done.{Done, done_with}

-- What both answer. A refusal's other fields are 0.
pub data Answer : Type 0 where
  loaded : (relations subqueries : ℕ) → Answer
  refused : (number : ℕ) → Answer

-- A refusal changes no state.
abbrev pub load_decoded : Read Query → State → Done Answer
load_decoded (fields.refused k) s = done_with (refused k) s
load_decoded (value q l) s = done_with (loaded (relations_of q) (subqueries q.joins (relations_of q))) (some q)

unfoldable pub load_by : Form → List ℕ → State → Done Answer
load_by f file s = load_decoded (decode f file) s

-- The ordinary load, and the load from row counts.
abbrev pub load : List ℕ → State → Done Answer
load file s = load_by form.Sizes file s

abbrev pub load_rows : List ℕ → State → Done Answer
load_rows file s = load_by form.Rows file s

-- An admitted load from row counts is the load of the ordinary file with the sizes that they come to: it answers the same and leaves the same query,
-- so that every later call answers the same too.
abbrev pub LoadRowsLaw : Type 0
LoadRowsLaw = (file : List ℕ) (q : Query) (l : List ℕ) → decode form.Rows file ≡ value q l → (s : State) → load_rows file s ≡ load (ordinary q file) s
