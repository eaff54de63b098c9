-- A star's subqueries weigh what no tree's exceed: each set of joins goes to the subquery that has them, the middle among its relations, and each other
-- relation to itself alone. And there is a star of any number of relations: growth from relation 0 has no join left that leads out.
use Prim.Native.Nat.{ℕ, zero, suc, ◌+◌, ◌-◌, ◌^◌, ◌≤◌, ◌<◌}
use mathlib.Core.Path.{◌≡◌, sym, ap, ◌∙◌}
use mathlib.Core.Bool.{true, not}
use mathlib.Core.Logic.{inl}
use native.Mathlib.Nat.{le_antisymm}
use native.Mathlib.Decide.{dec_lt}
use native.Mathlib.Omega.{arith}
use borrow.Author.Tests.{eq-eqb, ne_eqb}
use lib.Count.{ones, ones-ones}
use lib.Dec.{eqb}
use lib.ListN.{get_or, get_or-replicate}
use lib.Pow.{pow-lt}
use Rattle.relations.specs.declared.Joins.{Joins}
use Rattle.relations.specs.Sets.{bit, Sub, all, lowest}
use Rattle.relations.specs.Growth.{first, second, grow, Closed}
use Rattle.relations.specs.Trees.{reaches, join_bits}
use Rattle.relations.specs.Stars.{Star, up_from, star_of}
use Rattle.relations.specs.Code.{or_none}
use Rattle.relations.proofs.Bits.{bit_le, bit_pow, bit_pow_other, bit_all, bit_high, sub_single, sub_antisym, all_below}
use Rattle.relations.proofs.Counts.{ones_pow, lowest_pow}
use Rattle.relations.proofs.Growth.{grow_has, grow_within, grow_closed}
use Rattle.relations.proofs.Subqueries.{subqueries_law}
use Rattle.relations.proofs.Sums.{sum, besides, besides_other, besides_some, sum_besides, sum_into}
use Rattle.relations.proofs.Weights.{weight, weight_is, weighed_most, relations_weigh, sum_tested}
use Rattle.relations.proofs.Centred.{centred, OfJoins, of_joins, has_middle, middle_in}

module _ (J : Joins) (n : ℕ) (s : Star J n) (some : 0 < J.count) (w : ℕ → ℕ) where
  -- Sets with the middle.
  with_middle : sum (2 ^ J.count) (λ E. w (ones E)) ≤ sum (2 ^ n) (λ T. or_none (eqb (bit T s.middle) 1) (weight J n w T))
  with_middle = sum_into (2 ^ J.count) (2 ^ n) (λ E. w (ones E)) _ (λ E. centred J s.middle E J.count) (record {
    there = λ E l p. (at E l).below;
    enough = λ E l p.
        let less : ones (centred J s.middle E J.count) - 1 ≡ ones E = omega (arith, (at E l).count) in
        rw (eq-eqb _ 1 (has_middle J n s some E J.count)) (omega (arith, weight_is J n w (centred J s.middle E J.count) (at E l).subquery, ap w less));
    apart = λ E F l k p q e. sym (at E l).joins ∙ ap (λ (T : ℕ). join_bits J T J.count) e ∙ (at F k).joins;
  })
    where
      at : (E : ℕ) → E < 2 ^ J.count → OfJoins J n E (centred J s.middle E J.count)
      at E l = of_joins J n s some E l

  -- Sets without it: the other relations.
  without_middle : sum n (besides s.middle (λ r. w 0)) ≤ sum (2 ^ n) (λ T. or_none (not (eqb (bit T s.middle) 1)) (weight J n w T))
  without_middle = sum_into n (2 ^ n) (besides s.middle (λ r. w 0)) _ (λ r. 2 ^ r) (record {
    there = λ r l p. pow-lt l;
    enough = λ r l p.
        let other = besides_some s.middle (λ r. w 0) r p in
        let none : bit (2 ^ r) s.middle ≡ 0 = bit_pow_other r s.middle other in
        rw (ne_eqb (bit (2 ^ r) s.middle) 1 (λ q. omega arith))
        (omega (arith, besides_other s.middle (λ r. w 0) r other, weight_is J n w (2 ^ r) ((subqueries_law J n s.tree).single r l), ap (λ (x : ℕ). w (x - 1)) (ones_pow r)));
    apart = λ r q l k p o e. sym (lowest_pow n r l) ∙ ap (lowest n) e ∙ lowest_pow n q k;
  })

  pub star_weighs : sum (2 ^ n) (weight J n w) ≡ sum J.count (λ r. w 0) + sum (2 ^ J.count) (λ E. w (ones E))
  star_weighs = le_antisymm (weighed_most J n s.tree w) (omega (
    arith,
    sum_tested (2 ^ n) (λ T. eqb (bit T s.middle) 1) (weight J n w),
    with_middle,
    without_middle,
    sum_besides n s.middle (λ r. w 0) (middle_in J n s some),
    relations_weigh J n s.tree w,
  ))

-- The list of the star's other relations.
listed : (r k e : ℕ) → e < k → get_or (up_from r k) e 0 ≡ r + e
unfolding up_from
listed r zero e l = absurd (omega arith)
listed r (suc k) zero l = omega arith
listed r (suc k) (suc e) l = omega (arith, listed (suc r) k e (omega arith))

module _ (n : ℕ) (some : 1 ≤ n) where
  abbrev J : Joins
  J = star_of n

  from_middle : (e : ℕ) → e < n - 1 → first J e ≡ 0
  from_middle e l = get_or-replicate (n - 1) e 0 0 l

  to_other : (e : ℕ) → e < n - 1 → second J e ≡ suc e
  to_other e l = omega (arith, listed 1 (n - 1) e l)

  star_reaches : reaches J n ≡ true
  unfolding reaches
  star_reaches = eq-eqb grown (all n) (sub_antisym grown (all n) (grow_within J (all n) (n - 1) n (2 ^ 0) seed) every)
    where
      grown : ℕ
      grown = grow J (all n) (n - 1) n (2 ^ 0)

      seed : Sub (2 ^ 0) (all n)
      seed = sub_single (all n) 0 (bit_all n 0 some)

      closed : Closed J (all n) (n - 1) grown
      closed = grow_closed J (all n) (n - 1) n (2 ^ 0) seed (omega (arith, ones-ones n))

      middle : bit grown 0 ≡ 1
      middle = omega (arith, grow_has J (all n) (n - 1) n (2 ^ 0) 0, bit_pow 0, bit_le grown 0)

      every : Sub (all n) grown
      every zero = omega (arith, middle, bit_le (all n) 0)
      every (suc e) = elim (dec_lt (suc e) n) [
        | no l ↦ omega (arith, bit_high (all n) n (suc e) (all_below n) (omega arith))
        | yes l ↦ reached l
      ]
        where
          reached : suc e < n → bit (all n) (suc e) ≤ bit grown (suc e)
          reached l =
              let f = from_middle e (omega arith) in
              let g = to_other e (omega arith) in
              omega (
                arith,
                middle,
                bit_le (all n) (suc e),
                closed e (omega arith) (λ q. omega arith) (ap (bit (all n)) f ∙ bit_all n 0 some) (ap (bit (all n)) g ∙ bit_all n (suc e) l),
                ap (bit grown) f,
                ap (bit grown) g,
              )

  pub star_of_lem : Star (star_of n) n
  star_of_lem = record {
    tree = record {
      joins = omega arith;
      first_in = λ e l. omega (arith, from_middle e l);
      second_in = λ e l. omega (arith, to_other e l);
      reached = star_reaches;
    };
    middle = 0;
    in_each = λ e l. inl (from_middle e l);
  }
