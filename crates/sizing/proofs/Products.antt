-- The size once a relation has joined in: the product fits, the quotient is rounded up, and it is cut to the most that a size may be.
use Prim.Native.Nat.{ℕ, zero, suc, ◌+◌, ◌-◌, ◌*◌, ◌/◌, ◌%◌, ◌≤◌, ◌<◌, min}
use native.Mathlib.Nat.{mul-le-mul, mul-le-mul_right, div-mul-le_self, lt-mul-div-succ, lt-div-mul-add, add-mul, mul_comm}
use native.Mathlib.Decide.{dec_lt}
use native.Mathlib.Omega.{arith}
use mathlib.Core.Path.{◌≡◌, ◌∙◌}
use mathlib.Core.List.{List}
use mir.Syntax.{w64}
use mir.Val.{Fits}
use Rattle.std.specs.Int.{div_ceil}
use Rattle.std.proofs.lemmas.Grind.{div_ceil_times}
use Rattle.relations.specs.declared.Joins.{Joins}
use Rattle.relations.specs.Sets.{lowest}
use Rattle.sizing.specs.Worked.{most_size, joined_size, size_after, worked_size}
use Rattle.sizing.specs.Code.{Counts}
use Rattle.sizing.specs.Theorems.{ProductFits, RoundedUpLaw}

pub product_fits : ProductFits
product_fits size rows h k = omega (arith, mul-le-mul {n₁ = size} {m₁ = rows} {n₂ = most_size} {m₂ = 1_000_000} h k)

-- The product in 64 bits.
pub product_word : (size rows : ℕ) → size ≤ most_size → rows ≤ 1_000_000 → Fits w64 (size * rows)
product_word size rows h k = record { fits = omega (arith, product_fits size rows h k) }

-- A quotient rounded up.
no_more : (a b p q : ℕ) → q * b ≤ a → a < p * b + b → q ≤ p
no_more a b p q h k = elim (dec_lt p q) [ yes l ↦ more (mul-le-mul_right b (omega arith)) | no l ↦ omega arith ]
  where
    more : (p + 1) * b ≤ q * b → q ≤ p
    more g = omega (arith, add-mul p 1 b)

ceil_is : (a b : ℕ) → 1 ≤ b → div_ceil a b ≡ (a + (b - 1)) / b
ceil_is a b some =
    let q = a / b + min 1 (a % b) in
    let p = (a + (b - 1)) / b in
    let around : (a ≤ q * b) × (q * b < a + b) = div_ceil_times a b some in
    let under : p * b ≤ a + (b - 1) = div-mul-le_self (a + (b - 1)) b in
    let over : a + (b - 1) < p * b + b = lt-div-mul-add {a = a + (b - 1)} {b = b} some in
    let above : q ≤ p = no_more (a + (b - 1)) b p q (omega (arith, around.1)) over in
    let below : p ≤ q = no_more (a + (b - 1)) b q p under (omega (arith, around.0)) in
    omega arith

-- Cut to the most, it is the size.
pub cut_is : (size rows divisor : ℕ) → 1 ≤ divisor → min (div_ceil (size * rows) divisor) most_size ≡ joined_size size rows divisor
unfolding joined_size
cut_is size rows divisor some = omega (arith, ceil_is (size * rows) divisor some)

pub joined_most : (size rows divisor : ℕ) → joined_size size rows divisor ≤ most_size
unfolding joined_size
joined_most size rows divisor = omega arith

pub rounded_up : RoundedUpLaw
unfolding joined_size
rounded_up size rows divisor some =
    let a = size * rows in
    let up = (a + (divisor - 1)) / divisor in
    let under : up * divisor ≤ a + (divisor - 1) = div-mul-le_self (a + (divisor - 1)) divisor in
    let over : a + (divisor - 1) < divisor * (up + 1) = lt-mul-div-succ (a + (divisor - 1)) {b = divisor} some in
    let spread : divisor * (up + 1) ≡ up * divisor + divisor = mul_comm divisor (up + 1) ∙ add-mul up 1 divisor ∙ omega arith in
    record {
      most = omega arith;
      enough = λ h. let is : min most_size up ≡ up = omega arith in rw is (omega arith);
      least = λ x h.
          let less : (x + 1) * divisor ≤ up * divisor = mul-le-mul_right divisor (omega arith) in
          let more : (x + 1) * divisor ≡ x * divisor + divisor = add-mul x 1 divisor ∙ omega arith in
          omega arith;
    }

-- No worked size is above the most.
pub size_upto : (J : Joins) (n : ℕ) (rows divisors : List ℕ) → Counts rows → (S k : ℕ) → size_after J n rows divisors S k ≤ most_size
unfolding size_after
size_upto J n rows divisors c S zero = omega (arith, c.most (lowest n S))
size_upto J n rows divisors c S (suc k) = joined_most _ _ _

pub worked_upto : (J : Joins) (n : ℕ) (rows divisors : List ℕ) → Counts rows → (S : ℕ) → worked_size J n rows divisors S ≤ most_size
unfolding worked_size
worked_upto J n rows divisors c S = size_upto J n rows divisors c S _
