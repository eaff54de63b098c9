-- Each site sends once over its lines what it started with: where no detour pays, no line undercuts what then stands at the sites, since what came over one
-- line and goes on over another could have gone over one.
use Prim.Native.Nat.{ℕ, ◌+◌, ◌≤◌, ◌<◌}
use native.Mathlib.Nat.{le_refl, le_of_suc-le-suc, eq-or-lt_of_le, add-mul, mul-le-mul}
use native.Mathlib.Numerals.{add-one}
use native.Mathlib.Decide.{ℕ_discrete, dec_lt}
use native.Mathlib.Omega.{arith}
use mathlib.Core.Path.{◌≡◌, ap}
use mathlib.Core.Logic.{◌⊎◌, inl, inr}
use mathlib.Core.List.{List}
use lib.ListN.{get_or}
use Rattle.query.specs.Prices.{parcels}
use Rattle.board.specs.Figures.{none_mark, Marked}
use Rattle.board.specs.Board.{line_fixed_at, line_rate_at, sites_at}
use Rattle.sender.specs.Rows.{TriedAt}
use Rattle.sender.specs.Delivering.{line_in, Between, DeliveredFrom}
use Rattle.sender.specs.Detours.{Direct}
use Rattle.sender.proofs.Sent.{sent_is, sent_most, between_more}

-- A line costs no less than its fixed amount, and no more than a way of two lines of which it has no more in either part.
line_least : (b : List ℕ) (size a t : ℕ) → line_fixed_at b a t ≤ line_in b size a t
unfolding line_in
line_least b size a t = omega arith

line_direct : (b : List ℕ) (size a m t : ℕ) → (line_fixed_at b a t ≤ line_fixed_at b a m + line_fixed_at b m t) × (line_rate_at b a t ≤ line_rate_at b a m + line_rate_at b m t) →
    line_in b size a t ≤ line_in b size a m + line_in b size m t
unfolding line_in
line_direct b size a m t (fixed, rate) =
    omega (
      arith,
      mul-le-mul {n₁ = line_rate_at b a t} {m₁ = parcels size} {n₂ = line_rate_at b a m + line_rate_at b m t} {m₂ = parcels size} rate (le_refl _),
      add-mul (line_rate_at b a m) (line_rate_at b m t) (parcels size),
    )

module _ (b : List ℕ) (size : ℕ) (row : ℕ → ℕ) where
  -- The first k sites have sent: each figure is what the site started with, or came over one line.
  abbrev Came : ℕ → ℕ → Type 0
  Came t x = (x ≡ row t) ⊎ ((u : ℕ) × ((u < sites_at b) × (x ≡ row u + line_in b size u t)))

  pub record Directing (best : List ℕ) (k : ℕ) : Type 0 where
    pub between : Between b size row best
    pub sent : (u t : ℕ) → u < k → t < sites_at b → get_or best t 0 ≤ row u + line_in b size u t
    pub came : (t : ℕ) → t < sites_at b → Came t (get_or best t 0)

  module _ (best new : List ℕ) (k : ℕ) (few : sites_at b ≤ 8) (here : k < sites_at b) (d : Directing best k)
      (tried : TriedAt 8 best new (λ (t : ℕ). row k + line_in b size k t)) (marked : Marked new) where
    new_came : (t : ℕ) → t < sites_at b → Came t (get_or new t 0)
    new_came t h = elim (sent_is b size best new (row k) k few tried t h) [ inl (e, l) ↦ inr (k, (here, e)) | inr (e, l) ↦ rw e (d.came t h) ]

    pub directing_more : Directing new (k + 1)
    directing_more =
        record {
          between = between_more b size best new (row k) k few tried row here marked (λ D under uncut. under k here) d.between;
          sent = λ u t h low. sends u t low (eq-or-lt_of_le (le_of_suc-le-suc (rw (add-one k) at h)));
          came = new_came;
        }
      where
        sends : (u t : ℕ) → t < sites_at b → (u ≡ k) ⊎ (u < k) → get_or new t 0 ≤ row u + line_in b size u t
        sends u t low (inl e) = rw e (sent_most b size best new (row k) k few tried t low).1
        sends u t low (inr h) = omega (arith, (sent_most b size best new (row k) k few tried t low).0, d.sent u t h low)

  -- Once all have sent.
  module _ (best : List ℕ) (k : ℕ) (few : sites_at b ≤ 8) (d : Directing best k) (all : sites_at b ≤ k) (direct : Direct b (sites_at b)) where
    uncut_here : (m t : ℕ) → m < sites_at b → t < sites_at b → Came m (get_or best m 0) → get_or best t 0 ≤ get_or best m 0 + line_in b size m t
    uncut_here m t h low (inl e) = omega (arith, d.sent m t (omega arith) low)
    uncut_here m t h low (inr (u, (from, e))) = go (ℕ_discrete u t) (dec_lt (line_fixed_at b u m) none_mark) (dec_lt (line_fixed_at b m t) none_mark)
      where
        none : get_or best t 0 ≤ none_mark
        none = d.between.marked.most t (omega arith)

        go : Dec (u ≡ t) → Dec (line_fixed_at b u m < none_mark) → Dec (line_fixed_at b m t < none_mark) → get_or best t 0 ≤ get_or best m 0 + line_in b size m t
        go (yes same) one other = let back : row u ≡ row t = ap row same in omega (arith, e, d.between.below t low)
        go (no away) (yes one) (yes other) =
            omega (arith, e, d.sent u t (omega arith) low, line_direct b size u m t (direct u from m h t low away one other))
        go (no away) (no one) other = omega (arith, e, none, line_least b size u m)
        go (no away) (yes one) (no other) = omega (arith, e, none, line_least b size m t)

    pub directed : DeliveredFrom b size row best
    directed = record { between = d.between; uncut = λ m t h low. uncut_here m t h low (d.came m h) }
