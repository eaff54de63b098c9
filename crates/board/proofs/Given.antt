-- Rows that a closure gives lane by lane, from the lane's number or from the lane of another row.
use Prim.Native.Nat.{ℕ, zero, suc, ◌+◌, ◌<◌}
use native.Mathlib.Omega.{arith}
use mathlib.Core.Path.{◌≡◌, refl, subst, ◌∙◌}
use mathlib.Core.List.{List}
use lib.ListN.{get_or}
use denote.Param.Members.{Mut, Called}
use Rattle.std.specs.Array.{IsFromFnResult, IsFromFnResultFrom, IsMapOf}
use Rattle.board.specs.Figures.{Lanes}

module _ {F : Type 0} (g : Mut F (ℕ × Unit {0}) ℕ) (f : F) where
  -- No call changes the closure, and each gives h of the lane's number.
  module _ (h : ℕ → ℕ) (gives : (k v : ℕ) (q : F) → Called g f (k, tt) v q → (v ≡ h k) × (q ≡ f)) (row : List ℕ) where
    each_from : (p : F) (i n : ℕ) → p ≡ f → IsFromFnResultFrom g p row i n → (k : ℕ) → k < n → get_or row (i + k) 0 ≡ h (i + k)
    each_from p i zero e r k l = absurd (omega arith)
    each_from p i (suc n) e (q, v, is, called, rest) zero l =
        let at : i + 0 ≡ i = omega arith in
        let one = gives i v q (subst (λ (x : F). Called g x (i, tt) v q) e called) in
        rw at (is.1 0 ∙ one.0)
    each_from p i (suc n) e (q, v, is, called, rest) (suc k) l =
        let at : i + suc k ≡ (i + 1) + k = omega arith in
        let one = gives i v q (subst (λ (x : F). Called g x (i, tt) v q) e called) in
        rw at (each_from q (i + 1) n one.1 rest k (omega arith))

    pub lanes_given : IsFromFnResult g f row 8 → Lanes row h
    lanes_given made = record { long = made.long; each = λ k l. let at : 0 + k ≡ k = omega arith in rw at at (each_from f 0 8 refl made.each k l) }

  -- Each call gives what the other row has there.
  pub lanes_mapped : (xs row : List ℕ) → ((p q : F) (x v : ℕ) → Called g p (x, tt) v q → v ≡ x) → IsMapOf g f xs row 8 → Lanes row (λ k. get_or xs k 0)
  lanes_mapped xs row same made = record { long = made.long; each = λ k l. let at = made.at k 0 0 l in same at.0 at.1 _ _ at.2 }
