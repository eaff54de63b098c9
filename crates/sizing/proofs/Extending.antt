-- Which relations wait for a subquery with one more, and for one relation alone, as the code makes these sets.
use Prim.Native.Nat.{ℕ, ◌+◌, ◌^◌, ◌<◌}
use native.Mathlib.Decide.{dec_lt}
use native.Mathlib.Omega.{arith}
use mathlib.Core.Path.{◌≡◌, sym, ap, ◌∙◌}
use mathlib.Core.Logic.{◌⊎◌, inl, inr}
use lib.Bits.{bit_or, bit_and}
use lib.Pow.{lt_of_le_ones, pow_pos, pow-lt}
use Rattle.relations.specs.declared.Joins.{Joins}
use Rattle.relations.specs.Sets.{bit, all}
use Rattle.relations.specs.Trees.{Tree, Subquery}
use Rattle.relations.proofs.Bits.{bit_le, bit_or_lem, bit_and_lem, le_of_sub, bit_all, bit_more}
use Rattle.relations.proofs.Counts.{lowest_pow}
use Rattle.relations.proofs.Connected.{subquery_range}
use Rattle.relations.proofs.Walks.{From}
use Rattle.sizing.specs.Code.{neighbours, above, Adjacent, Waits, Waiting}
use Rattle.sizing.proofs.Members.{near_other, near_means, near_of, above_means, above_of}
use Rattle.sizing.proofs.Waiting.{waits_root}
use Rattle.sizing.proofs.WaitingMore.{waits_beside, waits_neighbour, waits_either, waits_single}

-- A set whose members are below n is below 2^n.
below_by : (n M : ℕ) → ((c : ℕ) → bit M c ≡ 1 → c < n) → M < 2 ^ n
below_by n M h = lt_of_le_ones n (le_of_sub M (all n) (λ c. elim (dec_lt (bit M c) 1) [ yes l ↦ omega arith | no l ↦ omega (arith, bit_le M c, bit_all n c (h c (omega (arith, bit_le M c)))) ]))

-- The set of those that wait, from what its members are.
waiting_of : (J : Joins) (n S M : ℕ) → ((c : ℕ) → bit M c ≡ 1 → Waits J n S c) → ((c : ℕ) → Waits J n S c → bit M c ≡ 1) → Waiting J n S M
waiting_of J n S M to from = record { low = below_by n M (λ c h. (to c h).in_all); each = λ c. (to c, from c) }

module _ (J : Joins) (n : ℕ) (t : Tree J n) where
  -- The neighbours above a relation wait for it alone.
  pub single_waiting : (r near : ℕ) → r < n → near ≡ neighbours J r → Waiting J n (2 ^ r) (bit_and near (above n (2 ^ r)))
  single_waiting r near low e = waiting_of J n (2 ^ r) M to from
    where
      some : 0 < 2 ^ r
      some = pow_pos r

      below : 2 ^ r < 2 ^ n
      below = pow-lt low

      M : ℕ
      M = bit_and near (above n (2 ^ r))

      to : (c : ℕ) → bit (bit_and near (above n (2 ^ r))) c ≡ 1 → Waits J n (2 ^ r) c
      to c h =
          let m = above_means n (2 ^ r) some below c (omega (arith, bit_and_lem near (above n (2 ^ r)) c, bit_le (above n (2 ^ r)) c)) in
          let a = near_means J r c J.count (ap (λ (x : ℕ). bit x c) (sym e) ∙ omega (arith, bit_and_lem near (above n (2 ^ r)) c, bit_le near c)) in
          (waits_single J n t r c low).1 m.0 (omega (arith, m.2, lowest_pow n r low)) a

      from : (c : ℕ) → Waits J n (2 ^ r) c → bit (bit_and near (above n (2 ^ r))) c ≡ 1
      from c w =
          let a : bit near c ≡ 1 = ap (λ (x : ℕ). bit x c) e ∙ near_of J r c w.out J.count w.near in
          omega (arith, bit_and_lem near (above n (2 ^ r)) c, above_of n (2 ^ r) some below c w.in_all w.out w.higher)

  module _ (S : ℕ) (s : Subquery J n S) (r : ℕ) (w : Waits J n S r) where
    -- For S and r wait those above r that wait for S, and the neighbours of r that are above the lowest relation.
    pub more_waiting :
        (E left near : ℕ) → Waiting J n S E → From E left (r + 1) → near ≡ neighbours J r →
        Waiting J n (S + 2 ^ r) (bit_or left (bit_and near (above n S)))
    more_waiting E left near all_of walk e = waiting_of J n (S + 2 ^ r) _ to from
      where
        range : (0 < S) × (S < 2 ^ n)
        range = subquery_range J n S s

        either : (c : ℕ) → bit (bit_or left (bit_and near (above n S))) c ≡ 1 → (bit left c ≡ 1) ⊎ ((bit near c ≡ 1) × (bit (above n S) c ≡ 1))
        either c h = elim (dec_lt (bit left c) 1) [
          | yes l ↦ inr (
            omega (arith, bit_or_lem left (bit_and near (above n S)) c, bit_and_lem near (above n S) c, bit_le near c, bit_le (above n S) c),
            omega (arith, bit_or_lem left (bit_and near (above n S)) c, bit_and_lem near (above n S) c, bit_le near c, bit_le (above n S) c),
          )
          | no l ↦ inl (omega (arith, bit_le left c))
        ]

        to : (c : ℕ) → bit (bit_or left (bit_and near (above n S))) c ≡ 1 → Waits J n (S + 2 ^ r) c
        to c h = go (either c h)
          where
            go : (bit left c ≡ 1) ⊎ ((bit near c ≡ 1) × (bit (above n S) c ≡ 1)) → Waits J n (S + 2 ^ r) c
            go (inl p) = elim (dec_lt c (r + 1)) [
              | yes l ↦ absurd (omega (arith, walk.gone c l))
              | no l ↦ waits_beside J n t S s r w c ((all_of.each c).0 (sym (walk.same c (omega arith)) ∙ p)) (omega arith)
            ]
            go (inr (p, q)) =
                let m = above_means n S range.0 range.1 c q in
                let k : bit (neighbours J r) c ≡ 1 = ap (λ (x : ℕ). bit x c) (sym e) ∙ p in
                waits_neighbour J n t S s r w c m.0 (omega (arith, bit_more S r w.out c, m.1, near_other J r c J.count)) m.2
                (near_means J r c J.count k)

        from : (c : ℕ) → Waits J n (S + 2 ^ r) c → bit (bit_or left (bit_and near (above n S))) c ≡ 1
        from c v = go (waits_either J n t S s r w c v)
          where
            go : (Waits J n S c × (r < c)) ⊎ Adjacent J (2 ^ r) c → bit (bit_or left (bit_and near (above n S))) c ≡ 1
            go (inl (u, l)) =
                let p : bit left c ≡ 1 = walk.same c (omega arith) ∙ (all_of.each c).1 u in
                omega (arith, bit_or_lem left (bit_and near (above n S)) c, bit_le (bit_and near (above n S)) c)
            go (inr a) =
                let p : bit near c ≡ 1 = ap (λ (x : ℕ). bit x c) e ∙ near_of J r c (omega (arith, bit_more S r w.out c, v.out)) J.count a in
                let q = above_of n S range.0 range.1 c v.in_all (omega (arith, bit_more S r w.out c, v.out)) (omega (arith, waits_root J n t S s r w, v.higher)) in
                omega (arith, bit_or_lem left (bit_and near (above n S)) c, bit_and_lem near (above n S) c, bit_le left c)
