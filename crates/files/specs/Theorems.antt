-- What is proved of whole files. The proofs are in proofs/.
use Rattle.std.specs.Prelude.{ℕ, ◌≤◌, ◌≡◌, List, length}
use Rattle.query.specs.declared.Query.{Query}
use Rattle.sections.specs.Fields.{value}
use Rattle.decoder.specs.declared.Form.{Form}
use Rattle.decoder.specs.declared.Form.TheVariants as form
use Rattle.decoder.specs.Decode.{decode}
use Rattle.files.specs.Length.{file_length, longest_file}
use Rattle.files.specs.Ordinary.{ordinary}

-- A file that is decoded has as many bytes as its query's sections come to, by its form.
abbrev pub DecodeLength : Type 0
DecodeLength = (f : Form) (file : List ℕ) (q : Query) (l : List ℕ) → decode f file ≡ value q l → length file ≡ file_length f q

-- So no file that is decoded is longer than the longest of its form.
abbrev pub LongestFile : Type 0
LongestFile = (f : Form) (file : List ℕ) (q : Query) (l : List ℕ) → decode f file ≡ value q l → length file ≤ longest_file f

-- What is decoded from row counts and divisors is, field by field, what is decoded from the ordinary file with the sizes that they come to.
abbrev pub RowsAsSizes : Type 0
RowsAsSizes = (file : List ℕ) (q : Query) (l : List ℕ) → decode form.Rows file ≡ value q l → decode form.Sizes (ordinary q file) ≡ value q l
