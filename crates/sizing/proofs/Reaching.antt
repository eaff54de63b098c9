-- All sets in ascending number. What a subquery has taken before its last step is a subquery with a smaller number, so once every set below m was gone
-- on from, each subquery whose front is below m is right; in the end all are.
use Prim.Native.Nat.{ℕ, suc, ◌+◌, ◌-◌, ◌^◌, ◌≤◌, ◌<◌}
use native.Mathlib.Decide.{dec_lt}
use native.Mathlib.Omega.{arith}
use mathlib.Core.Path.{◌≡◌, refl, sym, ap, subst, ◌∙◌}
use mathlib.Core.Bool.{Bool, true, false}
use mathlib.Core.List.{List}
use mathlib.Core.Logic.{◌⊎◌, inl, inr}
use lib.Count.{ones}
use lib.ListN.{get_or}
use lib.Pow.{pow_pos, pow_mono}
use lib.Seq.{ext_get_or}
use Rattle.relations.specs.declared.Joins.{Joins}
use Rattle.relations.specs.Sets.{lowest}
use Rattle.relations.specs.Trees.{Tree, is_subquery, Subquery}
use Rattle.relations.proofs.Counts.{single_of_ones, lowest_below}
use Rattle.relations.proofs.Connected.{subquery_range}
use Rattle.relations.proofs.Leads.{never_both}
use Rattle.relations.proofs.Subqueries.{subqueries_law}
use Rattle.sizing.specs.Worked.{next, taken_after, worked_size, sizes_below, worked_sizes}
use Rattle.sizing.specs.Code.{Waits, Lists, Long, Right, Begun, Extended}
use Rattle.sizing.proofs.Steps.{at, step_from, all_taken, some_relation}
use Rattle.sizing.proofs.Waiting.{last_waits, waits_subquery}
use Rattle.sizing.proofs.Lists.{same_right}
use Rattle.sizing.proofs.Most.{sizes_in, sizes_at}

-- Each relation by itself, and each subquery whose front, what it has taken before its last step, is below m, is right; a set that is none has no size.
pub record Reached (J : Joins) (n : ℕ) (rows divisors : List ℕ) (l : Lists) (m : ℕ) : Type 0 where
  pub long : Long l
  pub right : (X : ℕ) → Subquery J n X → (ones X ≡ 1) ⊎ (taken_after J n X (ones X - 2) < m) → Right J n rows divisors l X
  pub none : (X : ℕ) → is_subquery J n X ≡ false → get_or l.sizes X 0 ≡ 0

module _ (J : Joins) (n : ℕ) (t : Tree J n) (rows divisors : List ℕ) where
  -- The front of a subquery of two relations or more.
  module _ (X : ℕ) (s : Subquery J n X) (two : 1 < ones X) where
    before_last : suc (ones X - 2) < ones X
    before_last = omega arith

    front_connected : Subquery J n (taken_after J n X (ones X - 2))
    front_connected = (at J n t X s (ones X - 2) (omega arith)).connected

    front_with_last : X ≡ taken_after J n X (ones X - 2) + 2 ^ next J n X (taken_after J n X (ones X - 2))
    front_with_last =
        let e : ones X - 1 ≡ suc (ones X - 2) = omega arith in
        sym (all_taken J n t X s) ∙ ap (taken_after J n X) e ∙ (step_from J n t X s (ones X - 2) before_last).sum

    front_less : taken_after J n X (ones X - 2) < X
    front_less = omega (arith, front_with_last, pow_pos (next J n X (taken_after J n X (ones X - 2))))

  -- One relation, or more.
  one_or_more : (X : ℕ) → Subquery J n X → (ones X ≡ 1) ⊎ (1 < ones X)
  one_or_more X s = elim (dec_lt 1 (ones X)) [ yes l ↦ inr l | no l ↦ inl (omega (arith, some_relation J n t X s)) ]

  -- At first each relation by itself.
  pub reached_first : (old new : Lists) → Begun J n rows divisors old new n → ((X : ℕ) → get_or old.sizes X 0 ≡ 0) → Reached J n rows divisors new 1
  reached_first old new b zeros = record {
    long = b.long;
    right = λ X s h. go X s (one_or_more X s) h;
    none = λ X f. elim (b.each X) [
      | inl same ↦ same.size ∙ zeros X
      | inr (r, l, e) ↦ absurd (never_both (is_subquery J n X) (subst (λ (Y : ℕ). Subquery J n Y) (sym e) ((subqueries_law J n t).single r l)) f)
    ];
  }
    where
      alone : (X : ℕ) → Subquery J n X → ones X ≡ 1 → Right J n rows divisors new X
      alone X s one =
          let range = subquery_range J n X s in
          subst (λ (Y : ℕ). Right J n rows divisors new Y) (sym (single_of_ones n X range.1 one)) (b.right (lowest n X) (lowest_below n X range.0 range.1))

      go : (X : ℕ) → Subquery J n X → (ones X ≡ 1) ⊎ (1 < ones X) → (ones X ≡ 1) ⊎ (taken_after J n X (ones X - 2) < 1) → Right J n rows divisors new X
      go X s (inl one) h = alone X s one
      go X s (inr two) (inl one) = alone X s one
      go X s (inr two) (inr low) = absurd (omega (arith, (subquery_range J n (taken_after J n X (ones X - 2)) (front_connected X s two)).0))

  module _ (m : ℕ) where
    -- A set that is no subquery is no front.
    pub reached_past : (l : Lists) → is_subquery J n m ≡ false → Reached J n rows divisors l m → Reached J n rows divisors l (m + 1)
    reached_past l f r = record { long = r.long; right = λ X s h. go X s (one_or_more X s) h; none = r.none }
      where
        go : (X : ℕ) → Subquery J n X → (ones X ≡ 1) ⊎ (1 < ones X) → (ones X ≡ 1) ⊎ (taken_after J n X (ones X - 2) < m + 1) → Right J n rows divisors l X
        go X s (inl one) h = r.right X s (inl one)
        go X s (inr two) (inl one) = r.right X s (inl one)
        go X s (inr two) (inr low) = elim (dec_lt (taken_after J n X (ones X - 2)) m) [
          | yes k ↦ r.right X s (inr k)
          | no k ↦ absurd (
              let e : taken_after J n X (ones X - 2) ≡ m = omega arith in
              never_both (is_subquery J n m) (subst (λ (Y : ℕ). Subquery J n Y) e (front_connected X s two)) f)
        ]

    -- A subquery is right once its front was gone on from.
    pub reached_here : (l : Lists) → Subquery J n m → Reached J n rows divisors l m → Right J n rows divisors l m
    reached_here l s r = elim (one_or_more m s) [ inl one ↦ r.right m s (inl one) | inr two ↦ r.right m s (inr (front_less m s two)) ]

    pub reached_next : (old new : Lists) → Subquery J n m → Reached J n rows divisors old m → Extended J n rows divisors m old new → Reached J n rows divisors new (m + 1)
    reached_next old new here r x = record {
      long = x.long;
      right = λ X s h. go X s (one_or_more X s) h;
      none = λ X f. elim (x.each X) [
        | inl same ↦ same.size ∙ r.none X f
        | inr (c, w, e) ↦ absurd (never_both (is_subquery J n X) (subst (λ (Y : ℕ). Subquery J n Y) (sym e) (waits_subquery J n t m here c w)) f)
      ];
    }
      where
        still : (X : ℕ) → Right J n rows divisors old X → Right J n rows divisors new X
        still X k = elim (x.each X) [
          | inl same ↦ same_right J n rows divisors old new X same k
          | inr (c, w, e) ↦ subst (λ (Y : ℕ). Right J n rows divisors new Y) (sym e) (x.right c w)
        ]

        go : (X : ℕ) → Subquery J n X → (ones X ≡ 1) ⊎ (1 < ones X) → (ones X ≡ 1) ⊎ (taken_after J n X (ones X - 2) < m + 1) → Right J n rows divisors new X
        go X s (inl one) h = still X (r.right X s (inl one))
        go X s (inr two) (inl one) = still X (r.right X s (inl one))
        go X s (inr two) (inr low) = elim (dec_lt (taken_after J n X (ones X - 2)) m) [
          | yes k ↦ still X (r.right X s (inr k))
          | no k ↦ (
              let e : taken_after J n X (ones X - 2) ≡ m = omega arith in
              let w = last_waits J n t X s (ones X - 2) (before_last X s two) in
              let last = next J n X (taken_after J n X (ones X - 2)) in
              subst (λ (Y : ℕ). Right J n rows divisors new Y) (ap (λ (y : ℕ). y + 2 ^ last) (sym e) ∙ sym (front_with_last X s two))
              (x.right last (subst (λ (y : ℕ). Waits J n y last) e w)))
        ]

  -- In the end the sizes are the worked ones.
  pub reached_all : (l : Lists) → n ≤ 9 → Reached J n rows divisors l (2 ^ n) → l.sizes ≡ worked_sizes J n rows divisors
  unfolding worked_sizes
  reached_all l few r =
      let size = worked_size J n rows divisors in
      ext_get_or 0 l.sizes (sizes_below J n size (2 ^ n)) (r.long.sizes_long ∙ sym (sizes_in J n size (2 ^ n)).long) (λ X h. each X (is_subquery J n X) refl)
    where
      each : (X : ℕ) (d : Bool) → is_subquery J n X ≡ d → get_or l.sizes X 0 ≡ get_or (sizes_below J n (worked_size J n rows divisors) (2 ^ n)) X 0
      each X true s =
          let low = (subquery_range J n X s).1 in
          reached X s low ∙ sym (sizes_at J n (worked_size J n rows divisors) (2 ^ n) X low (pow_mono {i = n} {j = 9} few) s)
        where
          reached : (X : ℕ) → Subquery J n X → X < 2 ^ n → get_or l.sizes X 0 ≡ worked_size J n rows divisors X
          reached X s low = elim (one_or_more X s) [ inl one ↦ (r.right X s (inl one)).size | inr two ↦ (r.right X s (inr (omega (arith, front_less X s two)))).size ]
      each X false e = r.none X e ∙ sym ((sizes_in J n (worked_size J n rows divisors) (2 ^ n)).others X e)
