-- The test for detours, way by way: a number that lacks nothing in either part keeps what it was given, and so does every number that is cut down to it.
use Prim.Native.Nat.{ℕ, ◌+◌, ◌-◌, ◌*◌, ◌/◌, ◌≤◌, ◌<◌}
use native.Mathlib.Decide.{ℕ_discrete}
use native.Mathlib.Omega.{arith}
use mathlib.Core.Path.{◌≡◌, subst, ◌∙◌}
use mathlib.Core.Bool.{Bool, true, false}
use mathlib.Core.List.{List}
use lib.Bits.{bit_and, and_le_l, and_le_r}
use lib.ListN.{length, get_or}
use borrow.Author.Count.{below_more}
use Rattle.std.specs.Bool.{MatchBool}
use Rattle.std.specs.List.{AllWithin, range_with_len}
use Rattle.std.proofs.lemmas.List.FromFn.{length-range_with_len, get_or-range_with_len}
use Rattle.relations.proofs.Leads.{clash}
use Rattle.board.specs.Figures.{none_mark}
use Rattle.board.specs.Board.{line_fixed_at, line_rate_at, sites_at}
use Rattle.sender.specs.Detours.{enough, DirectAt, DirectOver, Direct, OtherLines}

-- What has enough in both parts is no detour that pays.
pub spare_direct : (b lines : List ℕ) (a m t to on rates closed x y : ℕ) → OtherLines b a lines → t < 8 → to ≡ line_fixed_at b a m → on ≡ line_fixed_at b m t →
    rates ≡ line_rate_at b a m + line_rate_at b m t → closed ≡ (to / none_mark + on / none_mark) * 1024 →
    x ≡ enough + to + on - get_or lines t 0 → y ≡ enough + rates + closed - line_rate_at b a t → enough ≤ bit_and x y → DirectAt b a m t
spare_direct b lines a m t to on rates closed x y others low to_is on-is rates-are closed_is x_is y-is plenty away one other =
    let open-to : to / none_mark ≡ 0 = omega arith in
    let open-on : on / none_mark ≡ 0 = omega arith in
    let opened : closed ≡ 0 = closed_is ∙ rw (open-to, open-on) in
    (omega (arith, and_le_l x y, others.each t low away), omega (arith, and_le_r x y))

-- One way more.
pub over_more : (b : List ℕ) (a m t spare x : ℕ) → (enough ≤ spare → DirectOver b a m t) → (enough ≤ x → DirectAt b a m t) →
    enough ≤ bit_and spare x → DirectOver b a m (t + 1)
over_more b a m t spare x before here plenty =
    below_more (λ (u : ℕ). DirectAt b a m u) t (before (omega (arith, and_le_l spare x))) (here (omega (arith, and_le_r spare x)))

-- Of the numbers below n, all of which passed.
pub all_of_range : (P : ℕ → Type 0) (Q : Type 0) (r : Bool) (n : ℕ) → r ≡ true → MatchBool r (AllWithin P (range_with_len 0 n) 0 (length (range_with_len 0 n))) Q → (k : ℕ) → k < n → P k
all_of_range P Q true n told all k low = let at : 0 + k ≡ k = omega arith in subst P (get_or-range_with_len 0 n k 0 low ∙ at) (all k 0 (omega arith) (omega (arith, length-range_with_len 0 n)))
all_of_range P Q false n told all k low = absurd (clash (cc))

-- Two sites have no way over a third.
pub direct_two : (b : List ℕ) → sites_at b ≤ 2 → Direct b (sites_at b)
direct_two b few a from m over t to away one other = go (ℕ_discrete m a) (ℕ_discrete m t)
  where
    go : Dec (m ≡ a) → Dec (m ≡ t) → (line_fixed_at b a t ≤ line_fixed_at b a m + line_fixed_at b m t) × (line_rate_at b a t ≤ line_rate_at b a m + line_rate_at b m t)
    go (yes e) d = rw e (omega arith, omega arith)
    go (no d) (yes e) = rw e (omega arith, omega arith)
    go (no d) (no e) = absurd (omega arith)
