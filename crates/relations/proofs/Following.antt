-- What the recursive growth leans on. It follows the lowest join that leads out, by the joins' ends: each time one relation more is taken, so what
-- is left to take falls, and growth from there is the same growth; where no join leads out, the set is closed and is its own growth.
use Prim.Native.Nat.{ℕ, zero, suc, ◌+◌, ◌-◌, ◌^◌, ◌≤◌, ◌<◌}
use mathlib.Core.Path.{◌≡◌, refl, sym, ap, ◌∙◌, subst}
use mathlib.Core.Bool.{Bool, true, false, not, ◌&&◌}
use mathlib.Core.List.{List}
use native.Mathlib.Omega.{arith}
use borrow.Author.Tests.{eqb-true, eqb-false, eq-eqb, ne_eqb}
use lib.Bits.{bit_and, bit_or}
use lib.Count.{ones, ones-le}
use lib.Dec.{eqb}
use lib.ListN.{length, get_or}
use Rattle.std.specs.Prelude.{Option, Some, None}
use Rattle.std.specs.Option.{unwrap_or}
use Rattle.relations.specs.declared.Joins.{Joins}
use Rattle.relations.specs.Sets.{bit, put, Sub}
use Rattle.relations.specs.Growth.{first, second, inside, leads, along, grow}
use Rattle.relations.specs.Code.{ends_of, is_skipped, leads_out, leads_by, Growable, FirstLeading}
use Rattle.relations.proofs.Bits.{ext, bit_le, bit_none, bit_and_lem, bit_or_lem, and_apart, single_apart, bit_pow, bit_put}
use Rattle.relations.proofs.Counts.{ones_mono}
use Rattle.relations.proofs.Leads.{Leads, leads_means, bit_along, along_within, ones_along}
use Rattle.relations.proofs.Growth.{closed_of_none, grow_still, grow_add}
use Rattle.relations.proofs.Loops.{ends_in}

-- None of a join's ends is in A where A masked by them is empty.
none_in : (J : Joins) (A e : ℕ) → eqb (bit_and A (ends_of J e)) 0 ≡ eqb (bit A (first J e) + bit A (second J e)) 0
unfolding ends_of
none_in J A e = go (eqb (bit A f + bit A s) 0) refl
  where
    f : ℕ
    f = first J e

    s : ℕ
    s = second J e

    M : ℕ
    M = put (2 ^ f) s

    go : (d : Bool) → eqb (bit A f + bit A s) 0 ≡ d → eqb (bit_and A M) 0 ≡ d
    go true p =
        let none = eqb-true (bit A f + bit A s) 0 p in
        eq-eqb (bit_and A M) 0 (and_apart A M λ r.
        omega (arith, single_apart A f (omega (arith, none)) r, single_apart A s (omega (arith, none)) r, bit_put (2 ^ f) s r))
    go false p =
        ne_eqb (bit_and A M) 0 λ q.
        eqb-false (bit A f + bit A s) 0 p
        (omega (arith, ap (λ (x : ℕ). bit x f) q, ap (λ (x : ℕ). bit x s) q, bit_none f, bit_none s, bit_and_lem A M f, bit_and_lem A M s, bit_put (2 ^ f) s f, bit_put (2 ^ f) s s, bit_pow f, bit_pow s))

-- A join is skipped by its number; the count of joins, which is no join, skips none.
skipped : (J : Joins) (skip : Option ℕ) (e : ℕ) → (skip ≡ None → e < J.count) → is_skipped skip e ≡ eqb e (unwrap_or skip J.count)
skipped J (Some x) e h = refl
skipped J None e h = let below = h refl in sym (ne_eqb e J.count (λ q. omega (arith, below)))

-- By its ends a join leads out just where it does by its two relations. Where none is skipped this is said of the joins that there are.
leads_by_lem : (J : Joins) (l : List ℕ) (S : ℕ) (skip : Option ℕ) (A e : ℕ) → get_or l e 0 ≡ ends_of J e → (skip ≡ None → e < J.count) → leads_by l S skip A e ≡ leads J S (unwrap_or skip J.count) A e
unfolding leads leads_out inside
leads_by_lem J l S skip A e is h =
    rw (is, skipped J skip e h, ends_in J S e, none_in J A e, inside_counts) (go (not (eqb e (unwrap_or skip J.count))) (inside J S e) (bit A (first J e) + bit A (second J e)) (omega (arith, bit_le A (first J e), bit_le A (second J e))))
  where
    inside_counts : eqb (bit_and A (ends_of J e)) (ends_of J e) ≡ eqb (bit A (first J e) + bit A (second J e)) 2
    inside_counts = ends_in J A e

    go : (a b : Bool) (c : ℕ) → c ≤ 2 → (a && ((b && not (eqb c 0)) && not (eqb c 2))) ≡ ((a && b) && eqb c 1)
    go false b c h = refl
    go true false c h = refl
    go true true zero h = refl
    go true true (suc zero) h = refl
    go true true (suc (suc zero)) h = refl
    go true true (suc (suc (suc c))) h = absurd (omega arith)

module _ (J : Joins) (l : List ℕ) (S : ℕ) (skip : Option ℕ) (A : ℕ) (g : Growable J l S A) where
  abbrev x : ℕ
  x = unwrap_or skip J.count

  same : (i : ℕ) → i < length l → leads_by l S skip A i ≡ leads J S x A i
  same i h = leads_by_lem J l S skip A i (g.ends.each i (omega (arith, g.ends.long))) (λ none. omega (arith, g.ends.long))

  pub grow_done : FirstLeading l S skip A None → A ≡ grow J S x (J.count + 1) A
  grow_done f = sym (grow_still J S x (J.count + 1) A (closed_of_none J S x A (λ i b. let h : i < length l = omega (arith, g.ends.long) in sym (same i h) ∙ f i h)))

  module _ (e : ℕ) (f : FirstLeading l S skip A (Some e)) (B : ℕ) (b : B ≡ bit_or A (get_or l e 0)) where
    known : e < J.count
    known = omega (arith, g.ends.long, f.in_list)

    leading : Leads J S x A e
    leading = leads_means J S x A e (sym (same e f.in_list) ∙ f.leads)

    followed : B ≡ along J A e
    unfolding ends_of
    followed = b ∙ ext (bit_or A (get_or l e 0)) (along J A e) (λ r.
        omega (arith, bit_or_lem A (get_or l e 0) r, ap (λ (y : ℕ). bit y r) (g.ends.each e known), bit_put (2 ^ first J e) (second J e) r, bit_along J A e r))

    pub follow_within : Growable J l S B
    follow_within =
        record {
          drawn = g.drawn;
          ends = g.ends;
          in_all = g.in_all;
          taken_in = subst (λ (C : ℕ). Sub C S) (sym followed) (along_within J A S e g.taken_in leading.first_in leading.second_in);
        }

    pub follow_falls : (t : ℕ) → ones S - ones A ≡ t → ones S - ones B < t
    follow_falls t q = omega (arith, ap ones followed, ones_along J A e leading.half, ones_mono B S follow_within.taken_in)

    pub follow_same : (r : ℕ) → r ≡ grow J S x (J.count + 1) B → r ≡ grow J S x (J.count + 1) A
    follow_same r q =
        q ∙ ap (grow J S x (J.count + 1)) followed
        ∙ grow_add J S x A (J.count + 1) e g.taken_in (omega (arith, ones-le (J.count + 1) S g.in_all)) known leading
