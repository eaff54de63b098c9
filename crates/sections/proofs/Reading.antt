-- What a field gives by its tests: cut, out of range, or whole. And the rules' numbering of the refusals is one of all.
use Prim.Native.Nat.{ℕ, ◌≤◌, ◌<◌}
use mathlib.Core.Path.{◌≡◌, refl, sym, ◌∙◌}
use mathlib.Core.Bool.{Bool, true, false, ◌&&◌}
use mathlib.Core.List.{List}
use lib.ListN.{length, take, drop}
use lib.Dec.{leb}
use borrow.Author.Tests.{lt-ltb, le-ltb}
use Rattle.std.specs.Prelude.{Result, Ok, Err}
use Rattle.query.specs.declared.refusal.Refusal.{Refusal}
use Rattle.query.specs.Refusals.{number_of}
use Rattle.sections.specs.Fields.{refused, value, number, field}
use Rattle.sections.specs.Code.{read_of, read_by}
use Rattle.sections.proofs.Parts.{number_taken}

module _ (w fault low high : ℕ) (l : List ℕ) where
  pub field_cut : length l < w → refused 1 ≡ field w fault low high l
  unfolding field
  field_cut h = rw (lt-ltb _ _ h)

  -- The bytes of a field that is not cut, and the test of their number.
  module _ (bytes : List ℕ) (whole : w ≤ length l) (is : bytes ≡ take w l) (v : ℕ) (number_is : v ≡ number (length bytes) bytes) (size : length bytes ≡ w)
      (t : Bool) (test : t ≡ (leb low v && leb v high)) where
    same_number : number w l ≡ v
    same_number = sym (number_taken w l whole) ∙ rw (number_is, size, is)

    pub field_out : t ≡ false → refused fault ≡ field w fault low high l
    unfolding field
    field_out h = rw (le-ltb _ _ whole, same_number, ← test, h)

    pub field_whole : (rest : List ℕ) → rest ≡ drop w l → t ≡ true → value v rest ≡ field w fault low high l
    unfolding field
    field_whole rest r h = rw (le-ltb _ _ whole, same_number, ← test, h, r)

pub ruleset judged = (field_cut, field_out, field_whole)

pub by_number : {A : Type 0} (r : Result A Refusal) (l : List ℕ) → read_of r l ≡ read_by number_of r l
by_number (Ok a) l = refl
by_number (Err k) l = refl
