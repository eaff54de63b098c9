-- The join that takes the last relation in is the one that the larger set holds beside the joins of the smaller.
use Prim.Native.Nat.{ℕ, ◌+◌, ◌^◌, ◌<◌}
use native.Mathlib.Decide.{dec_lt, ℕ_discrete}
use native.Mathlib.Omega.{arith}
use mathlib.Core.Path.{◌≡◌, refl, sym, ap, subst, ◌∙◌}
use mathlib.Core.Bool.{Bool, true, false}
use mathlib.Core.Logic.{◌⊎◌, inl, inr, ◌↔◌}
use Rattle.relations.specs.Code.{or_none}
use Rattle.relations.specs.declared.Joins.{Joins}
use Rattle.relations.specs.Sets.{bit}
use Rattle.relations.specs.Growth.{first, second, inside}
use Rattle.relations.specs.Trees.{Tree, Subquery, side, join_bits}
use Rattle.relations.proofs.Bits.{ext, bit_le, bit_add, bit_pow, bit_pow_other, single_apart, pow_cases, bit_more}
use Rattle.relations.proofs.JoinBits.{bits_inside, bits_high}
use Rattle.relations.proofs.Leads.{inside_ends, ends_inside}
use Rattle.relations.proofs.Trees.{side_first, side_second}
use Rattle.sizing.specs.Worked.{join_to}
use Rattle.sizing.specs.Code.{Waits}
use Rattle.sizing.proofs.Adjacent.{Linked, linked, links_of, join_links, join_in}
use Rattle.sizing.proofs.OnlyJoin.{only_join}

module _ (J : Joins) (n : ℕ) (t : Tree J n) (S : ℕ) (s : Subquery J n S) (r : ℕ) (w : Waits J n S r) where
  -- The join that takes r in is the one more that S with r holds.
  e : ℕ
  e = join_to J S r

  pub join_low : join_to J S r < J.count
  join_low = join_in J S r w.near

  by_join : Linked J S r (join_to J S r)
  by_join = linked J S r (join_to J S r) (join_links J S r join_low)

  -- Its two relations: both are in S with r, and r is not in S.
  ends_of : (bit (S + 2 ^ r) (first J (join_to J S r)) + bit (S + 2 ^ r) (second J (join_to J S r)) ≡ 2) × (bit S (first J (join_to J S r)) + bit S (second J (join_to J S r)) ≡ 1)
  ends_of = go by_join
    where
      go : Linked J S r (join_to J S r) → (bit (S + 2 ^ r) (first J (join_to J S r)) + bit (S + 2 ^ r) (second J (join_to J S r)) ≡ 2) × (bit S (first J (join_to J S r)) + bit S (second J (join_to J S r)) ≡ 1)
      go (inl (p, q)) =
          let f = ap (bit S) p in let g = ap (bit (2 ^ r)) p in
          (omega (arith, bit_more S r w.out (first J (join_to J S r)), bit_more S r w.out (second J (join_to J S r)), bit_pow r, w.out, single_apart S r w.out (second J (join_to J S r))), omega (arith, w.out))
      go (inr (p, q)) =
          let f = ap (bit S) p in let g = ap (bit (2 ^ r)) p in
          (omega (arith, bit_more S r w.out (first J (join_to J S r)), bit_more S r w.out (second J (join_to J S r)), bit_pow r, w.out, single_apart S r w.out (first J (join_to J S r))), omega (arith, w.out))

  -- Any other join of S with r is one of S.
  other_join : (i : ℕ) → i < J.count → (join_to J S r ≡ i → ⊥) → (bit (S + 2 ^ r) (first J i) + bit (S + 2 ^ r) (second J i) ≡ 2) → bit S (first J i) + bit S (second J i) ≡ 2
  other_join i l d h = go (pow_cases r (first J i)) (pow_cases r (second J i))
    where
      not_by : Linked J S r i → ⊥
      not_by k = d (only_join J n t S r s w.in_all w.out (join_to J S r) i join_low l (join_links J S r join_low) (links_of J S r i k))

      apart : first J i ≡ second J i → ⊥
      apart q = omega (arith, ap (bit (side J n i)) q, side_first J n t i l, side_second J n t i l)

      go : ((r ≡ first J i) × (bit (2 ^ r) (first J i) ≡ 1)) ⊎ (bit (2 ^ r) (first J i) ≡ 0) → ((r ≡ second J i) × (bit (2 ^ r) (second J i) ≡ 1)) ⊎ (bit (2 ^ r) (second J i) ≡ 0) →
          bit S (first J i) + bit S (second J i) ≡ 2
      go (inl (p, a)) (inl (q, b)) = absurd (apart (sym p ∙ q))
      go (inl (p, a)) (inr b) = absurd (not_by (inl (sym p, omega (arith, bit_more S r w.out (first J i), bit_more S r w.out (second J i), single_apart S r w.out (first J i), bit_le S (second J i)))))
      go (inr a) (inl (q, b)) = absurd (not_by (inr (sym q, omega (arith, bit_more S r w.out (first J i), bit_more S r w.out (second J i), single_apart S r w.out (second J i), bit_le S (first J i)))))
      go (inr a) (inr b) = omega (arith, bit_more S r w.out (first J i), bit_more S r w.out (second J i))

  in_bits : (X i : ℕ) → i < J.count → (bit (join_bits J X J.count) i ≡ 1) ↔ (bit X (first J i) + bit X (second J i) ≡ 2)
  in_bits X i l = (to (inside J X i) refl, from)
    where
      to : (d : Bool) → inside J X i ≡ d → bit (join_bits J X J.count) i ≡ 1 → bit X (first J i) + bit X (second J i) ≡ 2
      to true p h = let ends = inside_ends J X i p in omega (arith, ends.0, ends.1)
      to false p h = absurd (let z : or_none (inside J X i) 1 ≡ 0 = rw p in omega (arith, bits_inside J X J.count i l))

      from : bit X (first J i) + bit X (second J i) ≡ 2 → bit (join_bits J X J.count) i ≡ 1
      from h =
          let p = ends_inside J X i (omega (arith, bit_le X (first J i), bit_le X (second J i))) (omega (arith, bit_le X (first J i), bit_le X (second J i))) in
          let z : or_none (inside J X i) 1 ≡ 1 = rw p in
          bits_inside J X J.count i l ∙ z

  pub more_joins : join_bits J (S + 2 ^ r) J.count ≡ join_bits J S J.count + 2 ^ join_to J S r
  more_joins = ext A (B + 2 ^ join_to J S r) (λ i. each i)
    where
      A : ℕ
      A = join_bits J (S + 2 ^ r) J.count

      B : ℕ
      B = join_bits J S J.count

      not_there : bit (join_bits J S J.count) (join_to J S r) ≡ 0
      not_there = elim (dec_lt (bit (join_bits J S J.count) (join_to J S r)) 1) [
        | yes l ↦ omega arith
        | no l ↦ absurd (omega (arith, (in_bits S (join_to J S r) join_low).0 (omega (arith, bit_le (join_bits J S J.count) (join_to J S r))), ends_of.1))
      ]

      plus : (i : ℕ) → bit (join_bits J S J.count + 2 ^ join_to J S r) i ≡ bit (join_bits J S J.count) i + bit (2 ^ join_to J S r) i
      plus = bit_add (join_bits J S J.count) (2 ^ join_to J S r) (single_apart (join_bits J S J.count) (join_to J S r) not_there)

      -- The joins of S are among those of S with r.
      kept : (i : ℕ) → i < J.count → bit (join_bits J S J.count) i ≡ 1 → bit (join_bits J (S + 2 ^ r) J.count) i ≡ 1
      kept i l h =
          (in_bits (S + 2 ^ r) i l).1
          (omega (arith, (in_bits S i l).0 h, bit_more S r w.out (first J i), bit_more S r w.out (second J i), bit_le (S + 2 ^ r) (first J i), bit_le (S + 2 ^ r) (second J i), bit_le S (first J i), bit_le S (second J i)))

      below : (i : ℕ) → i < J.count → bit (join_bits J (S + 2 ^ r) J.count) i ≡ bit (join_bits J S J.count) i + bit (2 ^ join_to J S r) i
      below i l = elim (ℕ_discrete (join_to J S r) i) [
        | yes q ↦ subst (λ (x : ℕ). bit (join_bits J (S + 2 ^ r) J.count) x ≡ bit (join_bits J S J.count) x + bit (2 ^ join_to J S r) x) q
            (omega (arith, (in_bits (S + 2 ^ r) (join_to J S r) join_low).1 ends_of.0, not_there, bit_pow (join_to J S r)))
        | no d ↦ elim (dec_lt (bit (join_bits J (S + 2 ^ r) J.count) i) 1) [
          | yes m ↦ omega (arith, bit_pow_other (join_to J S r) i d, none_of i l m)
          | no m ↦ omega (
            arith,
            bit_pow_other (join_to J S r) i d,
            bit_le (join_bits J (S + 2 ^ r) J.count) i,
            (in_bits S i l).1 (other_join i l d ((in_bits (S + 2 ^ r) i l).0 (omega (arith, bit_le (join_bits J (S + 2 ^ r) J.count) i)))),
          )
        ]
      ]
        where
          none_of : (i : ℕ) → i < J.count → bit (join_bits J (S + 2 ^ r) J.count) i < 1 → bit (join_bits J S J.count) i ≡ 0
          none_of i l m = elim (dec_lt (bit (join_bits J S J.count) i) 1) [
            | yes k ↦ omega arith
            | no k ↦ absurd (omega (arith, kept i l (omega (arith, bit_le (join_bits J S J.count) i))))
          ]

      each : (i : ℕ) → bit (join_bits J (S + 2 ^ r) J.count) i ≡ bit (join_bits J S J.count + 2 ^ join_to J S r) i
      each i = elim (dec_lt i J.count) [
        | yes l ↦ omega (arith, plus i, below i l)
        | no l ↦ omega (
          arith,
          plus i,
          bits_high J (S + 2 ^ r) J.count i (omega arith),
          bits_high J S J.count i (omega arith),
          bit_pow_other (join_to J S r) i (λ q. omega (arith, join_low)),
        )
      ]
