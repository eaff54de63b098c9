-- Which relation joins in last: with one that waits for it a subquery takes its own steps first, and then that one; and the last relation of every
-- subquery waits for the rest. So its worked size is one step from that of the rest.
use Prim.Native.Nat.{ℕ, suc, ◌+◌, ◌-◌, ◌^◌, ◌<◌}
use native.Mathlib.Decide.{dec_lt}
use native.Mathlib.Omega.{arith}
use mathlib.Core.Path.{◌≡◌, sym, ap, subst, ◌∙◌}
use mathlib.Core.List.{List}
use mathlib.Core.Logic.{inl, inr}
use lib.Count.{ones}
use lib.ListN.{get_or}
use Rattle.relations.specs.declared.Joins.{Joins}
use Rattle.relations.specs.Sets.{bit, lowest}
use Rattle.relations.specs.Trees.{Tree, Subquery}
use Rattle.relations.proofs.Bits.{bit_le, bit_pow, bit_more, sub_more, more_cases}
use Rattle.relations.proofs.Counts.{lowest_in, lowest_least, lowest_is, ones_more}
use Rattle.relations.proofs.Connected.{subquery_range}
use Rattle.sizing.specs.Worked.{join_to, next, taken_after, joined_size, size_after, worked_size}
use Rattle.sizing.specs.Code.{Adjacent, Waits}
use Rattle.sizing.proofs.Adjacent.{next_least, next_is}
use Rattle.sizing.proofs.OnlyJoin.{with_adjacent}
use Rattle.sizing.proofs.Steps.{taken_upto, at, step_from, all_taken, some_relation}
use Rattle.sizing.proofs.Alike.{Alike, alike_taken, alike_size, front_root, joined_before, front_alike}

module _ (J : Joins) (n : ℕ) (t : Tree J n) where
  -- What joins in after k steps waits for those taken.
  pub last_waits : (S : ℕ) → Subquery J n S → (k : ℕ) → suc k < ones S → Waits J n (taken_after J n S k) (next J n S (taken_after J n S k))
  last_waits S s k h =
      let m = step_from J n t S s k h in
      let a = at J n t S s k (omega arith) in
      let X = taken_after J n S k in
      let r = next J n S X in
      let low = front_root J n t S s k (omega arith) in
      let same = front_alike J n t S s k (omega arith) in
      record {
        in_all = m.low;
        out = m.is_ready.free;
        near = m.is_ready.near;
        higher = elim (dec_lt (lowest n S) r) [
          | yes l ↦ omega (arith, low)
          | no l ↦ absurd (let e : lowest n S ≡ r = omega (arith, lowest_least n S r m.is_ready.of_set) in omega (arith, ap (bit X) e, a.root, m.is_ready.free))
        ];
        later = λ j l near.
            let below : j < k = omega (arith, a.count) in
            let T = taken_after J n S j in
            let e = alike_taken J n S X k same j (omega arith) in
            let v = next J n S T in
            let least = next_least J n S T r (record {
              of_set = m.is_ready.of_set;
              free = omega (arith, taken_upto J n S j k (omega arith) r, m.is_ready.free);
              near = subst (λ (x : ℕ). Adjacent J x r) e near;
            }) in
            let apart : v ≡ r → ⊥ = λ q. omega (arith, ap (bit X) q, joined_before J n t S s k (omega arith) j below, m.is_ready.free) in
            let is : next J n X (taken_after J n X j) ≡ v = ap (next J n X) e ∙ same.each j below in
            elim (dec_lt v r) [ yes g ↦ omega arith | no g ↦ absurd (apart (omega arith)) ];
      }

  -- A subquery X and a relation c that waits for it.
  module _ (X : ℕ) (s : Subquery J n X) (c : ℕ) (w : Waits J n X c) where
    pub waits_subquery : Subquery J n (X + 2 ^ c)
    waits_subquery = with_adjacent J n t X c s w.in_all w.out w.near

    pub waits_count : ones (X + 2 ^ c) ≡ ones X + 1
    waits_count = ones_more X c w.out

    pub waits_root : lowest n (X + 2 ^ c) ≡ lowest n X
    waits_root =
        let range = subquery_range J n X s in
        let here = lowest_in n X range.0 range.1 in
        lowest_is n (X + 2 ^ c) (lowest n X) (subquery_range J n (X + 2 ^ c) waits_subquery).1 (omega (arith, bit_more X c w.out (lowest n X), sub_more X c w.out (lowest n X), bit_le (X + 2 ^ c) (lowest n X)))
        (λ x h. elim (more_cases X c w.out x h) [ inl p ↦ lowest_least n X x p | inr e ↦ omega (arith, w.higher) ])

    -- The first steps are those of X.
    pub waits_alike : Alike J n X (X + 2 ^ c) (ones X - 1)
    waits_alike = record {
      root = waits_root;
      each = λ j l.
          let m = step_from J n t X s j (omega arith) in
          let T = taken_after J n X j in
          let v = next J n X T in
          next_is J n (X + 2 ^ c) T v m.low (record { of_set = omega (arith, sub_more X c w.out v, m.is_ready.of_set, bit_le (X + 2 ^ c) v); free = m.is_ready.free; near = m.is_ready.near })
          (λ x below r. elim (more_cases X c w.out x r.of_set) [
            | inl p ↦ omega (arith, next_least J n X T x (record { of_set = p; free = r.free; near = r.near }))
            | inr e ↦ omega (arith, w.later j (omega arith) (subst (λ (y : ℕ). Adjacent J T y) (sym e) r.near))
          ]);
    }

    last : ones X - 1 + 1 ≡ ones X
    last = omega (arith, some_relation J n t X s)

    pub waits_front : taken_after J n (X + 2 ^ c) (ones X - 1) ≡ X
    waits_front = alike_taken J n X (X + 2 ^ c) (ones X - 1) waits_alike (ones X - 1) (omega arith) ∙ all_taken J n t X s

    -- Then c.
    pub waits_last : next J n (X + 2 ^ c) X ≡ c
    waits_last =
        next_is J n (X + 2 ^ c) X c w.in_all (record { of_set = omega (arith, bit_more X c w.out c, bit_pow c, w.out); free = w.out; near = w.near })
        (λ x below r. elim (more_cases X c w.out x r.of_set) [ inl p ↦ omega (arith, r.free) | inr e ↦ omega arith ])

    -- So its worked size is one step from that of X.
    pub waits_size :
        (rows divisors : List ℕ) →
        worked_size J n rows divisors (X + 2 ^ c) ≡ joined_size (worked_size J n rows divisors X) (get_or rows c 0) (get_or divisors (join_to J X c) 0)
    unfolding worked_size size_after
    waits_size rows divisors =
        let steps : ones (X + 2 ^ c) - 1 ≡ suc (ones X - 1) = omega (arith, waits_count, some_relation J n t X s) in
        ap (size_after J n rows divisors (X + 2 ^ c)) steps
        ∙ rw (alike_size J n X (X + 2 ^ c) (ones X - 1) waits_alike rows divisors (ones X - 1) (omega arith), waits_front, waits_last)
