-- Bytes stored one after another from a place on, and those of a step.
use Rattle.std.specs.Prelude.{ℕ, ◌+◌, ◌≡◌, List, [], ◌∷◌, length}
use Rattle.std.proofs.lemmas.List.Edits.{sets}
use Rattle.rules.specs.declared.Step.{Step}
use Rattle.rules.specs.declared.Step.TheVariants.{Load, Send, Join}

pub record Wrote (old : List ℕ) (at : ℕ) (bytes : List ℕ) (r : ℕ) (new : List ℕ) : Type 0 where
  pub next : r ≡ at + length bytes
  pub stored : new ≡ sets old at bytes

-- What a step names, a relation, a site or a join; and its two bytes in a plan, its kind before that.
abbrev pub arg_of : Step → ℕ
arg_of (Load r) = r
arg_of (Send t) = t
arg_of (Join e) = e

abbrev pub bytes_of : Step → List ℕ
bytes_of (Load r) = 1 ∷ (r ∷ [])
bytes_of (Send t) = 2 ∷ (t ∷ [])
bytes_of (Join e) = 3 ∷ (e ∷ [])
