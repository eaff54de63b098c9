-- In a star every set of joins is that of a subquery: the middle with the ends of the joins. It has at most one relation more than these are, and in a
-- tree every set has fewer joins than relations, so these are all its joins, and it is connected.
use Prim.Native.Nat.{ℕ, zero, suc, ◌+◌, ◌^◌, ◌≤◌, ◌<◌}
use mathlib.Core.Path.{◌≡◌, refl, ap, ◌∙◌, sym}
use mathlib.Core.Bool.{Bool, true, false}
use mathlib.Core.Logic.{◌⊎◌, inl, inr, ⊎_elim}
use native.Mathlib.Nat.{eq-or-lt_of_le, le_of_suc-le-suc}
use native.Mathlib.Decide.{dec_lt}
use native.Mathlib.Omega.{arith}
use borrow.Author.Tests.{eqb-true, eqb-false}
use lib.Count.{ones}
use lib.Dec.{eqb}
use lib.Pow.{pow_pos}
use Rattle.relations.specs.declared.Joins.{Joins}
use Rattle.relations.specs.Sets.{bit, Sub, all}
use Rattle.relations.specs.Growth.{first, second, along}
use Rattle.relations.specs.Trees.{Subquery, joins_in, join_bits}
use Rattle.relations.specs.Stars.{Star}
use Rattle.relations.specs.Code.{or_none}
use Rattle.relations.proofs.Bits.{bit_le, bit_pow, bit_high, bit_all, le_of_sub, sub_single, below_of_sub, all_below}
use Rattle.relations.proofs.Counts.{ones_sum, ones_mono, ones_pow, sub_full}
use Rattle.relations.proofs.Leads.{along_has, along_within, along_first, along_second, along_few, ends_inside}
use Rattle.relations.proofs.JoinCounts.{joins_fewer}
use Rattle.relations.proofs.SubqueryCount.{subquery_of_count}
use Rattle.relations.proofs.JoinBits.{bits_inside}
use Rattle.relations.proofs.Sums.{sum}
use Rattle.relations.proofs.Weights.{bits_count}

-- The relation c with both relations of each join below m that is in E.
unfoldable pub centred : Joins → ℕ → ℕ → ℕ → ℕ
centred J c E zero = 2 ^ c
centred J c E (suc m) = elim (eqb (bit E m) 1) [ true ↦ along J (centred J c E m) m | false ↦ centred J c E m ]

-- T is the subquery whose joins are E.
pub record OfJoins (J : Joins) (n E T : ℕ) : Type 0 where
  pub below : T < 2 ^ n
  pub subquery : Subquery J n T
  pub count : ones T ≡ ones E + 1
  pub joins : join_bits J T J.count ≡ E

module _ (J : Joins) (n : ℕ) (s : Star J n) (some : 0 < J.count) where
  pub middle_in : s.middle < n
  middle_in = ⊎_elim (λ e. omega (arith, s.tree.first_in 0 some)) (λ e. omega (arith, s.tree.second_in 0 some)) (s.in_each 0 some)

  module _ (E : ℕ) where
    -- What one join more does: it comes along, or nothing changes.
    next : (m : ℕ) → ((bit E m ≡ 1) × (centred J s.middle E (suc m) ≡ along J (centred J s.middle E m) m)) ⊎ ((bit E m ≡ 0) × (centred J s.middle E (suc m) ≡ centred J s.middle E m))
    unfolding centred
    next m = go (eqb (bit E m) 1) refl
      where
        go : (d : Bool) → eqb (bit E m) 1 ≡ d
            → ((bit E m ≡ 1) × (elim d [ true ↦ along J (centred J s.middle E m) m | false ↦ centred J s.middle E m ] ≡ along J (centred J s.middle E m) m))
            ⊎ ((bit E m ≡ 0) × (elim d [ true ↦ along J (centred J s.middle E m) m | false ↦ centred J s.middle E m ] ≡ centred J s.middle E m))
        go true q = inl (eqb-true (bit E m) 1 q, refl)
        go false q = inr (omega (arith, bit_le E m, eqb-false (bit E m) 1 q), refl)

    grows : (m : ℕ) → Sub (centred J s.middle E m) (centred J s.middle E (suc m))
    grows m r = ⊎_elim (λ h. omega (arith, ap (λ (A : ℕ). bit A r) h.1, along_has J (centred J s.middle E m) m r)) (λ h. omega (arith, ap (λ (A : ℕ). bit A r) h.1)) (next m)

    pub has_middle : (m : ℕ) → bit (centred J s.middle E m) s.middle ≡ 1
    unfolding centred
    has_middle zero = bit_pow s.middle
    has_middle (suc m) = omega (arith, has_middle m, grows m s.middle, bit_le (centred J s.middle E (suc m)) s.middle)

    in_all : (m : ℕ) → m ≤ J.count → Sub (centred J s.middle E m) (all n)
    unfolding centred
    in_all zero l = sub_single (all n) s.middle (bit_all n s.middle middle_in)
    in_all (suc m) l = λ r.
        let below = in_all m (omega arith) in
        ⊎_elim
        (λ h. omega (
          arith,
          ap (λ (A : ℕ). bit A r) h.1,
          along_within J (centred J s.middle E m) (all n) m below (bit_all n (first J m) (s.tree.first_in m l)) (bit_all n (second J m) (s.tree.second_in m l)) r,
        ))
        (λ h. omega (arith, ap (λ (A : ℕ). bit A r) h.1, below r)) (next m)

    few : (m : ℕ) → m ≤ J.count → ones (centred J s.middle E m) ≤ 1 + sum m (bit E)
    unfolding centred sum
    few zero l = omega (arith, ones_pow s.middle)
    few (suc m) l =
        ⊎_elim (λ h. omega (arith, ap ones h.1, h.0, few m (omega arith), along_few J (centred J s.middle E m) m touched))
        (λ h. omega (arith, ap ones h.1, h.0, few m (omega arith))) (next m)
      where
        touched : 1 ≤ bit (centred J s.middle E m) (first J m) + bit (centred J s.middle E m) (second J m)
        touched =
            ⊎_elim (λ e. omega (arith, ap (bit (centred J s.middle E m)) e, has_middle m)) (λ e. omega (arith, ap (bit (centred J s.middle E m)) e, has_middle m)) (s.in_each m l)

    ends : (m e : ℕ) → e < m → bit E e ≡ 1 → (bit (centred J s.middle E m) (first J e) ≡ 1) × (bit (centred J s.middle E m) (second J e) ≡ 1)
    ends zero e l h = absurd (omega arith)
    ends (suc m) e l h = go (eq-or-lt_of_le (le_of_suc-le-suc l)) (ends m e)
      where
        A : ℕ
        A = centred J s.middle E (suc m)

        go : (e ≡ m) ⊎ (e < m) → (e < m → bit E e ≡ 1 → (bit (centred J s.middle E m) (first J e) ≡ 1) × (bit (centred J s.middle E m) (second J e) ≡ 1))
            → (bit A (first J e) ≡ 1) × (bit A (second J e) ≡ 1)
        go (inr k) below =
            let b = below k h in
            (omega (arith, b.0, grows m (first J e), bit_le A (first J e)), omega (arith, b.1, grows m (second J e), bit_le A (second J e)))
        go (inl q) below =
            ⊎_elim
            (λ now. (
              ap (λ (i : ℕ). bit A (first J i)) q ∙ ap (λ (B : ℕ). bit B (first J m)) now.1 ∙ along_first J (centred J s.middle E m) m,
              ap (λ (i : ℕ). bit A (second J i)) q ∙ ap (λ (B : ℕ). bit B (second J m)) now.1 ∙ along_second J (centred J s.middle E m) m,
            ))
            (λ never. absurd (omega (arith, h, never.0, ap (bit E) q))) (next m)

    pub of_joins : E < 2 ^ J.count → OfJoins J n E (centred J s.middle E J.count)
    of_joins h = record {
      below = low;
      subquery = subquery_of_count J n s.tree T low not_empty (omega (arith, fewer, counted, held, most));
      count = omega (arith, fewer, counted, held, most);
      joins = sym (sub_full E (join_bits J T J.count) kept (omega (arith, fewer, counted, most)));
    }
      where
        T : ℕ
        T = centred J s.middle E J.count

        low : T < 2 ^ n
        low = below_of_sub T (all n) n (in_all J.count (omega arith)) (all_below n)

        not_empty : 0 < T
        not_empty = omega (arith, le_of_sub (2 ^ s.middle) T (sub_single T s.middle (has_middle J.count)), pow_pos s.middle)

        kept : Sub E (join_bits J T J.count)
        kept e = elim (dec_lt e J.count) [
          | no l ↦ omega (arith, bit_high E J.count e h (omega arith))
          | yes l ↦ go (bit E e) refl l
        ]
          where
            go : (b : ℕ) → bit E e ≡ b → e < J.count → bit E e ≤ bit (join_bits J T J.count) e
            go zero q l = omega arith
            go (suc b) q l =
                let both = ends J.count e l (omega (arith, bit_le E e)) in
                omega (arith, bit_le E e, bits_inside J T J.count e l, ap (λ (d : Bool). or_none d 1) (ends_inside J T e both.0 both.1))

        most : ones T ≤ 1 + ones E
        most = omega (arith, few J.count (omega arith), ones_sum J.count E h)

        held : ones E ≤ ones (join_bits J T J.count)
        held = ones_mono E (join_bits J T J.count) kept

        counted : ones (join_bits J T J.count) ≡ joins_in J T J.count
        counted = bits_count J T J.count

        fewer : joins_in J T J.count + 1 ≤ ones T
        fewer = joins_fewer J n s.tree T low not_empty
