-- What is proved of the decoder. The proofs are in proofs/.
use Rattle.std.specs.Prelude.{ℕ, ◌≤◌, ◌≡◌, List}
use Rattle.query.specs.declared.Query.{Query}
use Rattle.query.specs.Query.{Valid}
use Rattle.sections.specs.Fields.{value, refused}
use Rattle.decoder.specs.declared.Form.{Form}
use Rattle.decoder.specs.Decode.{decode}

-- By either form, every decoded query keeps to the counts and ranges of rule 2.9, and its joins make a tree.
abbrev pub DecodeValid : Type 0
DecodeValid = (f : Form) (file : List ℕ) (q : Query) (l : List ℕ) → decode f file ≡ value q l → Valid q

-- A file is refused with one of the numbers 1 to 5.
abbrev pub DecodeRefusals : Type 0
DecodeRefusals = (f : Form) (file : List ℕ) (k : ℕ) → decode f file ≡ refused k → (1 ≤ k) × (k ≤ 5)
