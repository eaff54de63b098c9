-- What the test of a join's two operands means: one relation of the join in each. A bit is 0 or 1, so two bits make 2 only where both are 1.
use Prim.Native.Nat.{ℕ, ◌+◌, ◌≤◌}
use mathlib.Core.Path.{◌≡◌, refl}
use mathlib.Core.Bool.{Bool, true, false, ◌||◌}
use mathlib.Core.Logic.{◌⊎◌, inl, inr}
use lib.Dec.{eqb}
use native.Mathlib.Omega.{arith}
use borrow.Author.Tests.{eqb-true, eq-eqb}
use Rattle.relations.specs.declared.Joins.{Joins}
use Rattle.relations.specs.Sets.{bit}
use Rattle.relations.specs.Growth.{first, second}
use Rattle.relations.proofs.Bits.{bit_le}
use Rattle.rules.specs.Machine.{links}

pub links_of : (J : Joins) (e P R : ℕ) → bit P (first J e) ≡ 1 → bit R (second J e) ≡ 1 → links J e P R ≡ true
unfolding links
links_of J e P R one other = rw (eq-eqb (bit P (first J e) + bit R (second J e)) 2 (omega arith))

-- One end of join e in each of P and R, either way round.
pub links_means : (J : Joins) (e P R : ℕ) → links J e P R ≡ true →
    ((bit P (first J e) ≡ 1) × (bit R (second J e) ≡ 1)) ⊎ ((bit P (second J e) ≡ 1) × (bit R (first J e) ≡ 1))
unfolding links
links_means J e P R h = go (eqb (bit P (first J e) + bit R (second J e)) 2) refl h
  where
    ends : (x y : ℕ) → x ≤ 1 → y ≤ 1 → eqb (x + y) 2 ≡ true → (x ≡ 1) × (y ≡ 1)
    ends x y a b t = let two = eqb-true (x + y) 2 t in (omega arith, omega arith)

    go : (t : Bool) → eqb (bit P (first J e) + bit R (second J e)) 2 ≡ t → (t || eqb (bit P (second J e) + bit R (first J e)) 2) ≡ true →
        ((bit P (first J e) ≡ 1) × (bit R (second J e) ≡ 1)) ⊎ ((bit P (second J e) ≡ 1) × (bit R (first J e) ≡ 1))
    go true one other = inl (ends (bit P (first J e)) (bit R (second J e)) (bit_le P (first J e)) (bit_le R (second J e)) one)
    go false one other = inr (ends (bit P (second J e)) (bit R (first J e)) (bit_le P (second J e)) (bit_le R (first J e)) other)
