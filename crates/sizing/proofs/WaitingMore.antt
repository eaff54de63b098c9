-- For a subquery with one that waits for it wait the higher ones that waited beside, and the new neighbours of that one; for one relation alone, the
-- neighbours above it.
use Prim.Native.Nat.{ℕ, suc, ◌+◌, ◌-◌, ◌^◌, ◌<◌}
use native.Mathlib.Decide.{dec_lt}
use native.Mathlib.Omega.{arith}
use mathlib.Core.Path.{◌≡◌, sym, ap, subst, ◌∙◌}
use mathlib.Core.Bool.{true}
use mathlib.Core.Logic.{◌⊎◌, inl, inr}
use lib.Count.{ones}
use Rattle.relations.specs.declared.Joins.{Joins}
use Rattle.relations.specs.Sets.{bit, Sub, lowest}
use Rattle.relations.specs.Growth.{first, second}
use Rattle.relations.specs.Trees.{Tree, Subquery}
use Rattle.relations.proofs.Bits.{bit_pow_other, single_apart, bit_more, sub_more}
use Rattle.relations.proofs.Counts.{lowest_pow, ones_pow}
use Rattle.sizing.specs.Worked.{links, next, taken_after}
use Rattle.sizing.specs.Code.{Adjacent, Waits}
use Rattle.sizing.proofs.Adjacent.{Linked, linked, links_more, adjacent_more, adjacent_either}
use Rattle.sizing.proofs.OnlyJoin.{only_join}
use Rattle.sizing.proofs.Steps.{at, some_relation}
use Rattle.sizing.proofs.Alike.{Alike, alike_taken}
use Rattle.sizing.proofs.Waiting.{waits_subquery, waits_count, waits_root, waits_alike, waits_front, waits_last}

module _ (J : Joins) (n : ℕ) (t : Tree J n) where
  module _ (X : ℕ) (s : Subquery J n X) (c : ℕ) (w : Waits J n X c) where
    abbrev alike : Alike J n X (X + 2 ^ c) (ones X - 1)
    alike = waits_alike J n t X s c w

    -- Which relations wait for X and c.
    taken_in : (j : ℕ) → j < ones X → taken_after J n (X + 2 ^ c) j ≡ taken_after J n X j
    taken_in j l = alike_taken J n X (X + 2 ^ c) (ones X - 1) alike j (omega arith)

    pub waits_beside : (d : ℕ) → Waits J n X d → c < d → Waits J n (X + 2 ^ c) d
    waits_beside d v l = record {
      in_all = v.in_all;
      out = omega (arith, bit_more X c w.out d, v.out, bit_pow_other c d (λ e. omega arith));
      near = adjacent_more J X (X + 2 ^ c) d (sub_more X c w.out) v.near;
      higher = omega (arith, (waits_root J n t X s c w), v.higher);
      later = λ j h near.
          let below : j < ones X = omega (arith, (waits_count J n t X s c w)) in
          let e = taken_in j below in
          elim (dec_lt (suc j) (ones X)) [
            | yes k ↦ (
                let is : next J n (X + 2 ^ c) (taken_after J n (X + 2 ^ c) j) ≡ next J n X (taken_after J n X j) = ap (next J n (X + 2 ^ c)) e ∙ alike.each j (omega arith) in
                omega (arith, v.later j k (subst (λ (x : ℕ). Adjacent J x d) e near)))
            | no k ↦ (
                let j-is : j ≡ ones X - 1 = omega arith in
                let is : next J n (X + 2 ^ c) (taken_after J n (X + 2 ^ c) j) ≡ c = ap (λ (x : ℕ). next J n (X + 2 ^ c) (taken_after J n (X + 2 ^ c) x)) j-is ∙ ap (next J n (X + 2 ^ c)) (waits_front J n t X s c w) ∙ (waits_last J n t X s c w) in
                omega arith)
          ];
    }

    -- A relation outside is adjacent to X or to c, not to both.
    not_both : (d : ℕ) → d < n → bit (X + 2 ^ c) d ≡ 0 → Adjacent J (2 ^ c) d → Adjacent J X d → ⊥
    not_both d low out (e, l, h) (i, k, g) = go (linked J (2 ^ c) d e h) (linked J X d e (subst (λ (x : ℕ). links J X d x ≡ true) (sym one) g))
      where
        whole : (T a : ℕ) → Sub T (X + 2 ^ c) → links J T d a ≡ true → links J (X + 2 ^ c) d a ≡ true
        whole T a sub q = links_more J T (X + 2 ^ c) d a sub q

        one : e ≡ i
        one =
            only_join J n t (X + 2 ^ c) d (waits_subquery J n t X s c w) low out e i l k (whole (2 ^ c) e (λ x. omega (arith, bit_more X c w.out x)) h) (whole X i (sub_more X c w.out) g)

        go : Linked J (2 ^ c) d e → Linked J X d e → ⊥
        go (inl (p, q)) (inl (u, v)) = omega (arith, single_apart X c w.out (second J e))
        go (inl (p, q)) (inr (u, v)) = omega (arith, ap (bit (2 ^ c)) u, bit_more X c w.out d)
        go (inr (p, q)) (inl (u, v)) = omega (arith, ap (bit (2 ^ c)) u, bit_more X c w.out d)
        go (inr (p, q)) (inr (u, v)) = omega (arith, single_apart X c w.out (first J e))

    pub waits_neighbour : (d : ℕ) → d < n → bit (X + 2 ^ c) d ≡ 0 → lowest n X < d → Adjacent J (2 ^ c) d → Waits J n (X + 2 ^ c) d
    waits_neighbour d low out above near = record {
      in_all = low;
      out = out;
      near = adjacent_more J (2 ^ c) (X + 2 ^ c) d (λ x. omega (arith, bit_more X c w.out x)) near;
      higher = omega (arith, (waits_root J n t X s c w));
      later = λ j h by.
          let below : j < ones X = omega (arith, (waits_count J n t X s c w)) in
          absurd (not_both d low out near (adjacent_more J (taken_after J n X j) X d (at J n t X s j below).within (subst (λ (x : ℕ). Adjacent J x d) (taken_in j below) by)));
    }

    -- And no other does.
    pub waits_either : (d : ℕ) → Waits J n (X + 2 ^ c) d → (Waits J n X d × (c < d)) ⊎ Adjacent J (2 ^ c) d
    waits_either d v = go (adjacent_either J X c w.out d v.near)
      where
        go : Adjacent J X d ⊎ Adjacent J (2 ^ c) d → (Waits J n X d × (c < d)) ⊎ Adjacent J (2 ^ c) d
        go (inr near) = inr near
        go (inl near) =
            let front = (waits_front J n t X s c w) in
            let at_front = v.later (ones X - 1) (omega (arith, (waits_count J n t X s c w), some_relation J n t X s)) (subst (λ (x : ℕ). Adjacent J x d) (sym front) near) in
            let is : next J n (X + 2 ^ c) (taken_after J n (X + 2 ^ c) (ones X - 1)) ≡ c = ap (next J n (X + 2 ^ c)) front ∙ (waits_last J n t X s c w) in
            inl (
              record {
                in_all = v.in_all;
                out = omega (arith, bit_more X c w.out d, v.out);
                near = near;
                higher = omega (arith, (waits_root J n t X s c w), v.higher);
                later = λ j h by.
                    let e = taken_in j (omega arith) in
                    let same : next J n (X + 2 ^ c) (taken_after J n (X + 2 ^ c) j) ≡ next J n X (taken_after J n X j) = ap (next J n (X + 2 ^ c)) e ∙ alike.each j (omega arith) in
                    omega (arith, v.later j (omega (arith, (waits_count J n t X s c w))) (subst (λ (x : ℕ). Adjacent J x d) (sym e) by));
              },
              omega arith,
            )

  -- For one relation alone the neighbours above it wait.
  pub waits_single : (r d : ℕ) → r < n → (Waits J n (2 ^ r) d → (r < d) × Adjacent J (2 ^ r) d) × (d < n → r < d → Adjacent J (2 ^ r) d → Waits J n (2 ^ r) d)
  waits_single r d low = (
    (λ w. (omega (arith, w.higher, lowest_pow n r low), w.near)),
    (λ in_all h near. record {
      in_all = in_all;
      out = bit_pow_other r d (λ e. omega arith);
      near = near;
      higher = omega (arith, lowest_pow n r low);
      later = λ j l by. absurd (omega (arith, ones_pow r));
    }),
  )
