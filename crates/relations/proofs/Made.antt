-- An array that is made place by place by a closure which changes nothing that it holds: each place has what the closure answers there.
use Prim.Native.Nat.{ℕ, zero, suc, ◌+◌, ◌<◌}
use mathlib.Core.Path.{◌≡◌, ◌∙◌, subst}
use mathlib.Core.List.{List}
use native.Mathlib.Nat.{zero-add}
use native.Mathlib.Omega.{arith}
use lib.ListN.{get_or}
use denote.Param.Members.{Called, Mut}
use Rattle.std.specs.Array.{IsFromFnResult, IsFromFnResultFrom}
use Rattle.relations.specs.Code.{Listed}

module _ {F : Type 0} (g : Mut F (ℕ × Unit {0}) ℕ) (v : ℕ → ℕ) (f : F) (answers : (i y : ℕ) (q : F) → Called g f (i, tt) y q → (y ≡ v i) × (q ≡ f)) where
  made_from : (ys : List ℕ) (i n : ℕ) → IsFromFnResultFrom g f ys i n → (k : ℕ) → k < n → get_or ys (i + k) 0 ≡ v (i + k)
  made_from ys i zero made k l = absurd (omega arith)
  made_from ys i (suc n) made zero l = let first : i + 0 ≡ i = omega arith in rw first (made.2.1 0 ∙ (answers i _ _ made.3).0)
  made_from ys i (suc n) made (suc k) l =
      let next : i + suc k ≡ i + 1 + k = omega arith in
      rw next (made_from ys (i + 1) n (subst (λ (p : F). IsFromFnResultFrom g p ys (i + 1) n) (answers i _ _ made.3).1 made.4) k (omega arith))

  pub made_listed : (ys : List ℕ) (n : ℕ) → IsFromFnResult g f ys n → Listed ys v n n
  made_listed ys n made = record { long = made.long; each = λ i l. rw zero-add at (made_from ys 0 n made.each i l) }
