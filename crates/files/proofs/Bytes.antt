-- A number that is written in enough bytes is read from them again.
use Prim.Native.Nat.{ℕ, zero, suc, ◌/◌, ◌^◌, ◌≤◌, ◌<◌}
use native.Mathlib.Nat.{pow-suc}
use native.Mathlib.Omega.{arith}
use mathlib.Core.Path.{◌≡◌, refl, ap}
use mathlib.Core.List.{List, ◌++◌}
use lib.ListN.{length, length-append}
use lib.Seq.{drop_at}
use borrow.Author.Tests.{le-ltb, le-leb}
use Rattle.sections.specs.Fields.{value, number, field}
use Rattle.files.specs.Ordinary.{bytes_of}

length_bytes : (w v : ℕ) → length (bytes_of w v) ≡ w
unfolding bytes_of
length_bytes zero v = refl
length_bytes (suc w) v = ap suc (length_bytes w (v / 256))

number_bytes : (w v : ℕ) (x : List ℕ) → v < 256 ^ w → number w (bytes_of w v ++ x) ≡ v
unfolding bytes_of number
number_bytes zero v x h = omega arith
number_bytes (suc w) v x h = omega (arith, number_bytes w (v / 256) x (omega (arith, pow-suc 256 w)))

pub field_bytes :
    (w fault low high v : ℕ) (x : List ℕ) → v < 256 ^ w → low ≤ v → v ≤ high → field w fault low high (bytes_of w v ++ x) ≡ value v x
unfolding field
field_bytes w fault low high v x h j k =
    let long : w ≤ length (bytes_of w v ++ x) = omega (arith, length-append (bytes_of w v) x, length_bytes w v) in
    rw (le-ltb _ _ long, number_bytes w v x h, le-leb low v j, le-leb v high k, drop_at (bytes_of w v) x w (length_bytes w v))
