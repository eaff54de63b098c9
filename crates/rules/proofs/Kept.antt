-- What loads, sends and joins keep of each held result holds of the result that steps end with, of whatever number they are.
-- The held sets are disjoint and make up what is loaded, so the two operands of a join share no relation.
use Prim.Native.Nat.{ℕ, suc, ◌+◌, ◌^◌, ◌<◌}
use mathlib.Core.Path.{◌≡◌, refl}
use mathlib.Core.List.{List, [], ◌∷◌}
use native.Mathlib.Nat.{le_refl}
use native.Mathlib.Omega.{arith}
use lib.ListN.{length}
use Rattle.relations.specs.Sets.{bit, Apart}
use Rattle.relations.proofs.Bits.{bit_add, single_apart}
use Rattle.query.specs.declared.Query.{Query}
use Rattle.query.specs.Query.{relations_of}
use Rattle.rules.specs.declared.Held.{Held}
use Rattle.rules.specs.Machine.{Step, bare_of, Machine, sent_to, join_of}
use Rattle.rules.specs.Allowed.{RunAt}
use Rattle.rules.proofs.Steps.{MayLoad, MaySend, MayJoin, Cases, step_case}
use Rattle.rules.proofs.Invariants.{Holds, Ends, steps_end}

-- P is kept by every allowed step.
pub record Keeps (combine : ℕ → ℕ → ℕ) (q : Query) (P : Held → Type 0) : Type 0 where
  pub loads : (r : ℕ) → r < relations_of q → P (bare_of q r)
  pub sends : (t : ℕ) (h : Held) → MaySend q t h → P h → P (sent_to q t h)
  pub joins : (e : ℕ) (a b : Held) → MayJoin q e a b → Apart a.set b.set → P a → P b → P (join_of combine q a b)

-- The held results keep to P, are disjoint and make up L.
abbrev Stacked : (Held → Type 0) → ℕ → List Held → Type 0
Stacked P L [] = L ≡ 0
Stacked P L (h ∷ hs) = (M : ℕ) × P h × Apart h.set M × (h.set + M ≡ L) × Stacked P M hs

-- So do they after any number of steps.
abbrev pub Stacks : (Held → Type 0) → ℕ → Machine → Type 0
Stacks P i m = Stacked P m.loaded m.stack

module _ (combine : ℕ → ℕ → ℕ) (q : Query) (P : Held → Type 0) (keeps : Keeps combine q P) where
  stacks : (i : ℕ) → Cases combine q (λ m o p. Stacks P i m → Holds (Stacks P) (suc i) o)
  stacks i = record { loads = loaded; sends = sent; joins = made; refuses = λ m k p s. tt }
    where
      loaded : (m : Machine) (r : ℕ) → MayLoad q m.loaded r → Stacks P i m → Stacked P (m.loaded + 2 ^ r) (bare_of q r ∷ m.stack)
      loaded m r may s =
          (m.loaded, keeps.loads r may.known, (λ i. omega (arith, single_apart m.loaded r may.fresh i)), omega arith, s)

      sent : (L t : ℕ) (h : Held) (hs : List Held) → MaySend q t h → Stacked P L (h ∷ hs) → Stacked P L (sent_to q t h ∷ hs)
      sent L t h hs may (M, p, apart, sum, s) = (M, keeps.sends t h may p, apart, sum, s)

      made : (L e : ℕ) (a b : Held) (hs : List Held) → MayJoin q e a b → Stacked P L (b ∷ (a ∷ hs)) → Stacked P L (join_of combine q a b ∷ hs)
      made L e a b hs may (M, pb, apart-b, sum-b, (N, pa, apart-a, sum-a, s)) =
          let member : (i : ℕ) → bit M i ≡ bit a.set i + bit N i = λ i. rw (← sum-a) (bit_add a.set N apart-a i) in
          let operands : Apart a.set b.set = λ i. omega (arith, member i, apart-b i) in
          (N, keeps.joins e a b may operands pa pb, (λ i. omega (arith, member i, bit_add a.set b.set operands i, apart-b i)), omega arith, s)

  pub run_kept : (xs : List Step) (c : ℕ) → RunAt combine q xs c → Ends q (Stacks P) (length xs) c
  run_kept xs c h = steps_end combine q (Stacks P) (λ i. step_case combine q _ (stacks i)) (length xs) xs c (le_refl _) refl h
