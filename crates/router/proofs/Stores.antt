-- Laws of bytes stored one after another: two runs in a row are one, none of them changes the length, and the room for both is the room for each.
use Prim.Native.Nat.{ℕ, suc, ◌+◌, ◌≤◌, ◌<◌}
use native.Mathlib.Omega.{arith}
use mathlib.Core.Path.{◌≡◌, refl, ap, ◌∙◌}
use mathlib.Core.List.{List, [], ◌∷◌, ◌++◌}
use lib.ListN.{length, drop, set, length-append}
use lib.Seq.{sets, length-sets, sets-eq, set_comm}
use Rattle.router.specs.Wrote.{Wrote}

sets_append : (l : List ℕ) (i : ℕ) (xs ys : List ℕ) → sets (sets l i xs) (i + length xs) ys ≡ sets l i (xs ++ ys)
sets_append l i [] ys = let e : i + 0 ≡ i = omega arith in rw e
sets_append l i (x ∷ xs) ys = let e : i + suc (length xs) ≡ suc i + length xs = omega arith in rw e (sets_append (set l i x) (suc i) xs ys)

pub wrote_none : (l : List ℕ) (at : ℕ) → Wrote l at [] at l
wrote_none l at = record { next = omega arith; stored = refl }

pub wrote_then : (l m n xs ys zs : List ℕ) (at r s : ℕ) → Wrote l at xs r m → Wrote m r ys s n → zs ≡ xs ++ ys → Wrote l at zs s n
wrote_then l m n xs ys zs at r s w x is =
    rw is
    (record {
      next = omega (arith, w.next, x.next, length-append xs ys);
      stored = x.stored ∙ rw (w.next, w.stored) (sets_append l at xs ys);
    })

pub wrote_long : (l m xs : List ℕ) (at r : ℕ) → Wrote l at xs r m → length m ≡ length l
wrote_long l m xs at r w = ap length w.stored ∙ length-sets l at xs

pub room_first : (l xs ys zs : List ℕ) (at : ℕ) → zs ≡ xs ++ ys → at + length zs ≤ length l → at + length xs ≤ length l
room_first l xs ys zs at is h = omega (arith, ap length is, length-append xs ys)

pub room_next : (l m xs ys zs : List ℕ) (at r : ℕ) → zs ≡ xs ++ ys → at + length zs ≤ length l → Wrote l at xs r m → r + length ys ≤ length m
room_next l m xs ys zs at r is h w = omega (arith, ap length is, length-append xs ys, w.next, wrote_long l m xs at r w)

-- A plan is written as its steps from place 1 on and then its count at place 0.
set_first : (l : List ℕ) (i n : ℕ) (xs : List ℕ) → 0 < i → set (sets l i xs) 0 n ≡ sets (set l 0 n) i xs
set_first l i n [] h = refl
set_first l i n (x ∷ xs) h = set_first (set l i x) (suc i) n xs (omega arith) ∙ ap (λ (m : List ℕ). sets m (suc i) xs) (set_comm l i 0 x n (λ e. omega arith))

pub plan_stored : (l m xs : List ℕ) (n r : ℕ) → Wrote l 1 xs r m → 1 + length xs ≤ length l → set m 0 n ≡ (n ∷ xs) ++ drop (length (n ∷ xs)) l
plan_stored l m xs n r w h =
    let e : 0 + length (n ∷ xs) ≡ length (n ∷ xs) = omega arith in
    rw w.stored (set_first l 1 n xs (omega arith)) ∙ sets-eq (n ∷ xs) l 0 (omega arith)
    ∙ ap (λ (k : ℕ). (n ∷ xs) ++ drop k l) e
