-- The number in some bytes is what a fold from the last byte makes of them; and in the first bytes of a part it is that of these bytes alone.
use Prim.Native.Nat.{ℕ, zero, suc, ◌+◌, ◌*◌, ◌%◌, ◌^◌, ◌≤◌, ◌<◌}
use native.Mathlib.Nat.{lt_of_lt_of_le, pow-le-pow_right, pow-suc, mod-eq_of_lt}
use native.Mathlib.Omega.{arith}
use mathlib.Core.Path.{◌≡◌, refl, ap, ◌∙◌}
use mathlib.Core.List.{List, [], ◌∷◌}
use lib.Dec.{lit<}
use lib.ListN.{length, get_or, take}
use Rattle.std.specs.Prelude.{reverse}
use Rattle.std.specs.List.{fold}
use Rattle.std.specs.Int.Bits.{bit_or}
use Rattle.std.proofs.lemmas.Nat.{or_shifted}
use Rattle.std.proofs.lemmas.List.{reverse-append}
use Rattle.std.proofs.lemmas.List.Sums.{fold-append}
use Rattle.std.proofs.Common.{Fits, w8}
use Rattle.sections.specs.Fields.{number}

abbrev Bytes : List ℕ → Type 0
Bytes l = (i : ℕ) → Fits w8 (get_or l i 0)

-- One byte more at the low end.
abbrev pub with_byte : ℕ → ℕ → ℕ
with_byte v b = bit_or (v * 256 % 18446744073709551616) b

pub number_below : (l : List ℕ) → Bytes l → number (length l) l < 256 ^ length l
unfolding number
number_below [] h = lit< tt
number_below (b ∷ l) h =
    let rest = number_below l (λ i. h (suc i)) in
    rw pow-suc (omega (arith, (h 0).fits, rest))

pub number_folded : (l : List ℕ) → Bytes l → length l ≤ 4 → fold with_byte 0 (reverse l) ≡ number (length l) l
unfolding number
number_folded [] h few = refl
number_folded (b ∷ l) h few =
    let rest : fold with_byte 0 (reverse l) ≡ number (length l) l = number_folded l (λ i. h (suc i)) (omega arith) in
    let below : number (length l) l < 256 ^ 3 = lt_of_lt_of_le (number_below l (λ i. h (suc i))) (pow-le-pow_right {n = 256} (lit< tt) {i = length l} {j = 3} (omega arith)) in
    let exact : number (length l) l * 256 % 18446744073709551616 ≡ number (length l) l * 256 = mod-eq_of_lt (omega (arith, below)) in
    rw (reverse-append (b ∷ []) l, fold-append, rest, exact) (or_shifted (number (length l) l) 8 b (omega (arith, (h 0).fits)) ∙ omega arith)

pub number_taken : (w : ℕ) (l : List ℕ) → w ≤ length l → number w (take w l) ≡ number w l
unfolding number
number_taken zero l h = refl
number_taken (suc w) [] h = refl
number_taken (suc w) (b ∷ l) h = ap (λ (v : ℕ). b + 256 * v) (number_taken w l (omega arith))
