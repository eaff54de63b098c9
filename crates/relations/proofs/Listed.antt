-- A list that a loop fills from its first entry on, at every width: each turn stores one entry more and leaves those below it.
use Prim.Native.Nat.{ℕ, ◌+◌, ◌≤◌, ◌<◌}
use mathlib.Core.Path.{◌≡◌, ap, ◌∙◌}
use mathlib.Core.Bool.{Bool}
use mathlib.Core.List.{List}
use native.Mathlib.Omega.{arith}
use borrow.Author.Count.{below_none, below_more}
use borrow.Author.Tests.{lt-ltb}
use lib.Dec.{ltb}
use lib.ListN.{length, get_or, set, take, length-set}
use Rattle.std.proofs.lemmas.List.{length-take-le, get_or-take}
use lib.Seq.{get_or-set_same, get_or-set_other}
use Rattle.relations.specs.Code.{Listed, or_none}

-- A list that has g at the places below k, with g stored at k.
pub set_next :
    (l : List ℕ) (g : ℕ → ℕ) (k v : ℕ) → k < length l → ((i : ℕ) → i < k → get_or l i 0 ≡ g i) → v ≡ g k → (i : ℕ) → i < k + 1 → get_or (set l k v) i 0 ≡ g i
set_next l g k v long below here =
    below_more (λ (i : ℕ). get_or (set l k v) i 0 ≡ g i) k (λ i h. get_or-set_other l k i v 0 (λ q. omega arith) ∙ below i h) (get_or-set_same l k v 0 long ∙ here)

module _ (l : List ℕ) (g : ℕ → ℕ) (n : ℕ) where
  pub listed_none : length l ≡ n → Listed l g n 0
  listed_none h = record { long = h; each = below_none _ }

  pub listed_next : (k v : ℕ) → Listed l g n k → k < n → v ≡ g k → Listed (set l k v) g n (k + 1)
  listed_next k v r h e = record { long = length-set l k v ∙ r.long; each = set_next l g k v (omega (arith, r.long)) r.each e }

  -- Fewer entries: those up to the loop's end.
  pub listed_done : (k s : ℕ) → Listed l g n k → s ≤ k → Listed l g n s
  listed_done k s r h = record { long = r.long; each = λ i below. r.each i (omega arith) }

  -- The first s entries of a list that is filled whole, with 0 from s on.
  pub listed_first : (s k : ℕ) → Listed l (λ (i : ℕ). or_none (ltb i s) (g i)) n k → n ≤ k → s ≤ n → Listed l g n s
  listed_first s k r h m =
      record { long = r.long; each = λ i below. r.each i (omega arith) ∙ ap (λ (d : Bool). or_none d (g i)) (lt-ltb i s below) }

  -- Its first s entries, by themselves.
  pub listed_front : (s : ℕ) → Listed l g n s → s ≤ n → Listed (take s l) g s s
  listed_front s r h = record { long = length-take-le s l (omega (arith, r.long)); each = λ i below. get_or-take s l i 0 below ∙ r.each i below }
