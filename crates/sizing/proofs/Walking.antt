-- From a subquery, one of the relations that wait for it a turn, from the lowest on.
use Prim.Native.Nat.{ℕ, ◌+◌, ◌-◌, ◌%◌, ◌^◌, ◌≤◌, ◌<◌}
use native.Mathlib.Decide.{dec_lt}
use native.Mathlib.Omega.{arith}
use mathlib.Core.Path.{◌≡◌, refl, sym, ap, subst, ◌∙◌}
use mathlib.Core.List.{List}
use mathlib.Core.Logic.{◌⊎◌}
use lib.Bits.{bit_or, bit_and}
use lib.Count.{count_trailing_zeros}
use lib.ListN.{get_or}
use lib.Pow.{pow_mono}
use mir.Syntax.{w64}
use mir.Val.{Fits}
use Rattle.relations.specs.Code.{most_sets}
use Rattle.relations.specs.declared.Joins.{Joins}
use Rattle.relations.specs.Trees.{Subquery, join_bits}
use Rattle.relations.proofs.Counts.{lowest_pow}
use Rattle.relations.proofs.Connected.{subquery_range}
use Rattle.relations.proofs.Walks.{From, none_from, lowest_whole, none_between, one_within, one_less, from_next}
use Rattle.subqueries.proofs.Entries.{entry_joins}
use Rattle.sizing.specs.Worked.{join_to, most_size, joined_size, worked_size}
use Rattle.sizing.specs.Code.{above, Waits, Waiting, Lists, Long, Right, Same, Extended, Extendable}
use Rattle.sizing.proofs.Products.{worked_upto}
use Rattle.sizing.proofs.Waiting.{waits_subquery, waits_size}
use Rattle.sizing.proofs.Extending.{more_waiting}
use Rattle.sizing.proofs.LastJoin.{join_low, more_joins}
use Rattle.sizing.proofs.Lists.{stored, stored_long, stored_right, still_right, each_stored}
use Rattle.sizing.proofs.Beginning.{place_in}

-- The walk from a subquery S: each relation that waits for it and was passed has made S right with it.
pub record Extending (J : Joins) (n : ℕ) (rows divisors : List ℕ) (S : ℕ) (old new : Lists) (left : ℕ) : Type 0 where
  pub at : ℕ
  pub from : From (get_or old.waiting S 0) left at
  pub low : left < 2 ^ n
  pub long : Long new
  pub right : (c : ℕ) → Waits J n S c → c < at → Right J n rows divisors new (S + 2 ^ c)
  pub each : (X : ℕ) → Same old new X ⊎ ((c : ℕ) × Waits J n S c × (X ≡ S + 2 ^ c))

module _ {J : Joins} {n : ℕ} {table rows divisors near : List ℕ} {S : ℕ} {old : Lists} (a : Extendable J n table rows divisors near old S) where
  nine : n ≤ 9
  nine = omega (arith, a.few, a.tree.joins)

  pub above_asks : (n ≤ 9) × ((0 < S) × (S < 2 ^ n))
  above_asks = (nine, subquery_range J n S a.subquery)

  pub set_in : (0 < S) × (S < 2 ^ n) × (S < most_sets)
  set_in = let range = subquery_range J n S a.subquery in (range.0, range.1, place_in n S nine range.1)

  module _ {new : Lists} {left : ℕ} (x : Extending J n rows divisors S old new left) where
    word : left < 2 ^ 64
    word = omega (arith, x.low, pow_mono {i = n} {j = 9} nine)

    -- All that wait were passed.
    pub extending_done : left ≡ 0 → Extended J n rows divisors S old new
    extending_done none = record {
      long = x.long;
      right = λ c w. elim (dec_lt c x.at) [
        | yes l ↦ x.right c w l
        | no l ↦ absurd (omega (arith, none_from (get_or old.waiting S 0) left x.at x.from none c (omega arith), (a.right.waiting.each c).1 w))
      ];
      each = x.each;
    }

    -- The next of them, r.
    module _ (some : left ≡ 0 → ⊥) where
      abbrev r : ℕ
      r = count_trailing_zeros 64 left

      next_waits : Waits J n S r
      next_waits = (a.right.waiting.each r).0 (lowest_whole (get_or old.waiting S 0) left x.at x.from some word)

      pub next_low : r < 9
      next_low = omega (arith, next_waits.in_all, nine)

      pub next_within : (one : ℕ) → one ≡ 2 ^ r → one ≤ left
      next_within = one_within (get_or old.waiting S 0) left x.at x.from some word

      pub next_less : (one : ℕ) → one ≡ 2 ^ r → left - one < left
      next_less = one_less (get_or old.waiting S 0) left x.at x.from some word

      more : Subquery J n (S + 2 ^ r)
      more = waits_subquery J n a.tree S a.subquery r next_waits

      pub more_place : (one X : ℕ) → one ≡ 2 ^ r → X ≡ S + one → X < most_sets
      more_place one X e q = rw (q, e) (place_in n (S + 2 ^ r) nine (subquery_range J n (S + 2 ^ r) more).1)

      pub more_word : (one : ℕ) → one ≡ 2 ^ r → Fits w64 (S + one)
      more_word one e = record { fits = omega (arith, more_place one (S + one) e refl) }

      -- The joins that the table holds for S and for S with r.
      held_is : (X held : ℕ) → X < 2 ^ n → held ≡ get_or table X 0 % 256 → held ≡ join_bits J X J.count
      held_is X held l e = e ∙ ap (λ (y : ℕ). y % 256) (a.entries.each X l) ∙ entry_joins J X a.few

      joins_by :
          (one X held now : ℕ) → one ≡ 2 ^ r → X ≡ S + one → held ≡ get_or table S 0 % 256 → now ≡ get_or table X 0 % 256 → now ≡ held + 2 ^ join_to J S r
      joins_by one X held now e q h k =
          let is : X ≡ S + 2 ^ r = rw (q, e) in
          held_is X now (rw is (subquery_range J n (S + 2 ^ r) more).1) k ∙ rw is (more_joins J n a.tree S a.subquery r next_waits)
          ∙ ap (λ (y : ℕ). y + 2 ^ join_to J S r) (sym (held_is S held set_in.1 h))

      -- Where its divisor stands, and what the new size asks.
      module _ (one X held now : ℕ) (e : one ≡ 2 ^ r) (q : X ≡ S + one) (h : held ≡ get_or table S 0 % 256) (k : now ≡ get_or table X 0 % 256) where
        pub join_there : held ≤ now
        join_there = omega (arith, joins_by one X held now e q h k)

        pub join_is : count_trailing_zeros 64 (now - held) ≡ join_to J S r
        join_is =
            let alone : now - held ≡ 2 ^ join_to J S r = omega (arith, joins_by one X held now e q h k) in
            ap (count_trailing_zeros 64) alone ∙ lowest_pow 64 (join_to J S r) (omega (arith, join_low J n a.tree S a.subquery r next_waits, nine))

        pub join_few : count_trailing_zeros 64 (now - held) < 9
        join_few = omega (arith, join_is, join_low J n a.tree S a.subquery r next_waits, nine)

        pub joined_asks :
            ((get_or old.sizes S 0 ≤ most_size) × (get_or rows r 0 ≤ 1_000_000))
            × ((1 ≤ get_or divisors (count_trailing_zeros 64 (now - held)) 0) × (get_or divisors (count_trailing_zeros 64 (now - held)) 0 ≤ 1_000_000))
        joined_asks = (
          (omega (arith, a.right.size, worked_upto J n rows divisors a.rows_in S), a.rows_in.most r),
          (a.divisors_in.some (count_trailing_zeros 64 (now - held)) join_few, a.divisors_in.most (count_trailing_zeros 64 (now - held))),
        )

      new_waiting : (one X up : ℕ) → one ≡ 2 ^ r → X ≡ S + one → up ≡ above n S → Waiting J n X (bit_or (left - one) (bit_and (get_or near r 0) up))
      new_waiting one X up e q u =
          rw (q, e, u) (more_waiting J n a.tree S a.subquery r next_waits (get_or old.waiting S 0) (left - 2 ^ r) (get_or near r 0) a.right.waiting
          (from_next (get_or old.waiting S 0) left x.at x.from some word (2 ^ r) refl) (a.near_is.each r next_waits.in_all))

      pub extending_next :
          (one X held now size up : ℕ) → one ≡ 2 ^ r → X ≡ S + one → held ≡ get_or table S 0 % 256 → now ≡ get_or table X 0 % 256 →
          size ≡ joined_size (get_or old.sizes S 0) (get_or rows r 0) (get_or divisors (count_trailing_zeros 64 (now - held)) 0) → up ≡ above n S →
          Extending J n rows divisors S old (stored new X size (bit_or (left - one) (bit_and (get_or near r 0) up))) (left - one)
      extending_next one X held now size up e q h k z u =
          let w = bit_or (left - one) (bit_and (get_or near r 0) up) in
          let is : X ≡ S + 2 ^ r = rw (q, e) in
          let waits : Waiting J n X w = new_waiting one X up e q u in
          let worked : size ≡ worked_size J n rows divisors X =
          z ∙ rw (join_is one X held now e q h k, a.right.size) (sym (ap (worked_size J n rows divisors) is ∙ waits_size J n a.tree S a.subquery r next_waits rows divisors)) in
          let here = stored_right J n rows divisors new X size w x.long (more_place one X e q) worked waits in
          record {
            at = r + 1;
            from = from_next (get_or old.waiting S 0) left x.at x.from some word one e;
            low = omega (arith, x.low);
            long = stored_long new X size w x.long;
            right = λ c v l. elim (dec_lt c x.at) [
              | yes below ↦ still_right J n rows divisors new X (S + 2 ^ c) size w here (x.right c v below)
              | no past ↦ elim (dec_lt c r) [
                | yes between ↦ absurd (omega (arith, none_between (get_or old.waiting S 0) left x.at x.from some word c (omega arith) between, (a.right.waiting.each c).1 v))
                | no reached ↦ (
                    let c-is : c ≡ r = omega arith in
                    subst (λ (Y : ℕ). Right J n rows divisors (stored new X size w) Y) (is ∙ ap (λ (y : ℕ). S + 2 ^ y) (sym c-is)) here)
              ]
            ];
            each = each_stored (λ Y. (c : ℕ) × Waits J n S c × (Y ≡ S + 2 ^ c)) old new X size w (r, next_waits, is) x.each;
          }
