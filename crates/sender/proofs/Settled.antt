-- The nearest site that is left sends over its lines, one after the other: what those that have sent have is no more than what the others have, so no line of
-- theirs undercuts any site, then or later.
use Prim.Native.Nat.{ℕ, zero, suc, ◌+◌, ◌-◌, ◌^◌, ◌≤◌, ◌<◌}
use native.Mathlib.Nat.{le_refl, le_antisymm}
use native.Mathlib.Omega.{arith}
use mathlib.Core.Path.{◌≡◌, refl, ap, subst, ◌∙◌}
use mathlib.Core.Logic.{◌⊎◌, inl, inr}
use mathlib.Core.List.{List}
use lib.ListN.{get_or}
use lib.Pow.{pow_mono, pow_pos}
use Rattle.relations.specs.Sets.{bit, all, lowest}
use Rattle.relations.proofs.Bits.{bit_le, bit_none, bit_sub, bit_range, bit_all, all_below, sub_single, le_of_sub, pow_cases}
use Rattle.relations.proofs.Counts.{lowest_in}
use Rattle.board.specs.Figures.{Marked}
use Rattle.board.specs.Board.{sites_at}
use Rattle.sender.specs.Rows.{TriedAt}
use Rattle.sender.specs.Delivering.{line_in, Between, DeliveredFrom, Nearest}
use Rattle.sender.proofs.Sent.{sent_most, sent_least, between_more, between_none}

-- A site is left, or it has sent.
bit_or_lem : (left u : ℕ) → (bit left u ≡ 1) ⊎ (bit left u ≡ 0)
bit_or_lem left u = go (bit left u) refl (bit_le left u)
  where
    go : (n : ℕ) → bit left u ≡ n → n ≤ 1 → (bit left u ≡ 1) ⊎ (bit left u ≡ 0)
    go zero e h = inr e
    go (suc zero) e h = inl e
    go (suc (suc n)) e h = absurd (omega arith)

-- The nearest site, one weighed more each turn.
pub record Weighed (row : List ℕ) (left k at : ℕ) : Type 0 where
  pub among : bit left at ≡ 1
  pub low : at < 8
  pub least : (t : ℕ) → t < k → bit left t ≡ 1 → get_or row at 0 ≤ get_or row t 0

-- The lowest of them at first, and the nearest of all once all are weighed.
pub weighed_none : (row : List ℕ) (left at : ℕ) → 0 < left → left < 256 → at ≡ lowest 64 left → Weighed row left 0 at
weighed_none row left at some few is =
    let among : bit left (lowest 64 left) ≡ 1 = lowest_in 64 left some (omega arith) in
    record { among = rw is among; low = rw is (bit_range left 8 (lowest 64 left) few among); least = λ t h. absurd (omega arith) }

pub weighed_all : (row : List ℕ) (left k at : ℕ) → Weighed row left k at → left < 256 → 8 ≤ k → Nearest row left at
weighed_all row left k at w few h = record { among = w.among; least = λ t b. w.least t (omega (arith, bit_range left 8 t few b)) b }

module _ (b : List ℕ) (size : ℕ) (row : ℕ → ℕ) where
  -- Some sites have sent, others are left.
  pub record Settling (best : List ℕ) (left : ℕ) : Type 0 where
    pub between : Between b size row best
    pub listed : (u : ℕ) → bit left u ≡ 1 → u < sites_at b
    pub low : left < 256
    pub sent : (u t : ℕ) → u < sites_at b → bit left u ≡ 0 → t < sites_at b → get_or best t 0 ≤ get_or best u 0 + line_in b size u t
    pub nearer : (u t : ℕ) → u < sites_at b → bit left u ≡ 0 → bit left t ≡ 1 → get_or best u 0 ≤ get_or best t 0

  module _ (best new : List ℕ) (left m : ℕ) (few : sites_at b ≤ 8) (s : Settling best left) (near : Nearest best left m)
      (tried : TriedAt 8 best new (λ (t : ℕ). get_or best m 0 + line_in b size m t)) (marked : Marked new) where
    new_most : (t : ℕ) → t < sites_at b → (get_or new t 0 ≤ get_or best t 0) × (get_or new t 0 ≤ get_or best m 0 + line_in b size m t)
    new_most = sent_most b size best new (get_or best m 0) m few tried

    new_least : (x t : ℕ) → t < sites_at b → x ≤ get_or best t 0 → x ≤ get_or best m 0 + line_in b size m t → x ≤ get_or new t 0
    new_least = sent_least b size best new (get_or best m 0) m few tried

    here : m < sites_at b
    here = s.listed m near.among

    -- Those who sent before, and the sender itself, keep what they have.
    keeps : (u : ℕ) → u < sites_at b → get_or best u 0 ≤ get_or best m 0 → get_or new u 0 ≡ get_or best u 0
    keeps u h less = le_antisymm (new_most u h).0 (new_least (get_or best u 0) u h (le_refl _) (omega arith))

    gone : (u : ℕ) → bit (left - 2 ^ m) u ≡ bit left u - bit (2 ^ m) u
    gone u = bit_sub (2 ^ m) left (sub_single left m near.among) u

    still_left : (u : ℕ) → bit (left - 2 ^ m) u ≡ 1 → bit left u ≡ 1
    still_left u h = omega (arith, gone u, bit_le left u)

    -- Who has sent now: who had before, or the sender.
    sender : (u : ℕ) → u < sites_at b → bit (left - 2 ^ m) u ≡ 0 → (get_or new u 0 ≡ get_or best u 0) × ((get_or best u 0 ≤ get_or best m 0) × ((bit left u ≡ 0) ⊎ (m ≡ u)))
    sender u h out = go (pow_cases m u) (bit_or_lem left u)
      where
        before : bit left u ≡ 0 → (get_or new u 0 ≡ get_or best u 0) × ((get_or best u 0 ≤ get_or best m 0) × ((bit left u ≡ 0) ⊎ (m ≡ u)))
        before e = let less : get_or best u 0 ≤ get_or best m 0 = s.nearer u m h e near.among in (keeps u h less, (less, inl e))

        go : ((m ≡ u) × (bit (2 ^ m) u ≡ 1)) ⊎ (bit (2 ^ m) u ≡ 0) → (bit left u ≡ 1) ⊎ (bit left u ≡ 0) →
            (get_or new u 0 ≡ get_or best u 0) × ((get_or best u 0 ≤ get_or best m 0) × ((bit left u ≡ 0) ⊎ (m ≡ u)))
        go (inl (e, one)) which =
            let less : get_or best u 0 ≤ get_or best m 0 = rw e (le_refl _) in (keeps u h less, (less, inr e))
        go (inr other) (inl on) = absurd (omega (arith, gone u))
        go (inr other) (inr off) = before off

    pub settling_more : Settling new (left - 2 ^ m)
    settling_more =
        record {
          between =
              between_more b size best new (get_or best m 0) m few tried row here marked (λ D under uncut. s.between.greatest D under uncut m here) s.between;
          listed = λ u h. s.listed u (still_left u h);
          low = omega (arith, s.low);
          sent = λ u t h out low. sends u t h low (sender u h out);
          nearer = λ u t h out on.
              let w = sender u h out in
              let l = s.listed t (still_left t on) in
              rw w.0 (new_least (get_or best u 0) t l (omega (arith, w.1.0, near.least t (still_left t on))) (omega (arith, w.1.0)));
        }
      where
        sends : (u t : ℕ) → u < sites_at b → t < sites_at b → (get_or new u 0 ≡ get_or best u 0) × ((get_or best u 0 ≤ get_or best m 0) × ((bit left u ≡ 0) ⊎ (m ≡ u))) →
            get_or new t 0 ≤ get_or new u 0 + line_in b size u t
        sends u t h low (e, (less, inl off)) = omega (arith, e, (new_most t low).0, s.sent u t h off low)
        sends u t h low (e, (less, inr same)) =
            let over : get_or new t 0 ≤ get_or best u 0 + line_in b size u t =
            subst (λ (x : ℕ). get_or new t 0 ≤ get_or best x 0 + line_in b size x t) same (new_most t low).1 in
            omega (arith, e)

  -- Once all have sent.
  pub settled : (best : List ℕ) (left : ℕ) → Settling best left → left ≡ 0 → DeliveredFrom b size row best
  settled best left s none =
      record { between = s.between; uncut = λ m t h low. s.sent m t h (ap (λ (x : ℕ). bit x m) none ∙ bit_none m) low }

-- Before any has.
pub settling_none : (b : List ℕ) (size : ℕ) (best : List ℕ) (left : ℕ) → Marked best → sites_at b ≤ 8 → left ≡ all (sites_at b) → Settling b size (λ (k : ℕ). get_or best k 0) best left
settling_none b size best left marked few is =
    record {
      between = between_none b size best marked;
      listed = λ u h. bit_range left (sites_at b) u (omega (arith, is, all_below (sites_at b))) h;
      low = omega (arith, is, all_below (sites_at b), pow_mono {i = sites_at b} {j = 8} few);
      sent = λ u t h out low. absurd (omega (arith, out, ap (λ (x : ℕ). bit x u) is, bit_all (sites_at b) u h));
      nearer = λ u t h out on. absurd (omega (arith, out, ap (λ (x : ℕ). bit x u) is, bit_all (sites_at b) u h));
    }

-- Each turn leaves fewer sites.
pub less_left : (left m : ℕ) → bit left m ≡ 1 → (2 ^ m ≤ left) × (left - 2 ^ m < left)
less_left left m on = let within : 2 ^ m ≤ left = le_of_sub (2 ^ m) left (sub_single left m on) in (within, omega (arith, pow_pos m))
