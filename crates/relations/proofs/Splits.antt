-- The parts of a subquery by a join in it: the first part is what the subquery shares with the join's side, since that is connected and closed,
-- and each part is connected, as no other join links the two.
use Prim.Native.Nat.{ℕ, ◌+◌, ◌-◌, ◌^◌, ◌<◌, min}
use mathlib.Core.Path.{◌≡◌, sym, subst}
use mathlib.Core.Bool.{true}
use mathlib.Core.Logic.{inl, inr}
use native.Mathlib.Decide.{ℕ_discrete}
use native.Mathlib.Omega.{arith}
use lib.Bits.{bit_and}
use lib.Count.{ones}
use Rattle.relations.specs.declared.Joins.{Joins}
use Rattle.relations.specs.declared.splitting.Parts.{Parts}
use Rattle.relations.specs.Sets.{bit, Sub}
use Rattle.relations.specs.Growth.{first, second, inside}
use Rattle.relations.specs.Trees.{Subquery, Tree, part, rest, side}
use Rattle.relations.specs.Theorems.{Grown}
use Rattle.relations.specs.Splits.{parts_by, Split, SplitLaw, PartBySide}
use Rattle.relations.proofs.Bits.{bit_le, bit_pow, bit_and_lem, bit_less, sub_single, sub_apart, sub_whole, below_of_sub}
use Rattle.relations.proofs.Counts.{ones_add, ones_pos}
use Rattle.relations.proofs.Leads.{inside_ends}
use Rattle.relations.proofs.Growth.{growth_least, grown_unique}
use Rattle.relations.proofs.Connected.{Conn, conn_of, of_conn, subquery_range, enough}
use Rattle.relations.proofs.Trees.{side_first, side_second, side_other}
use Rattle.relations.proofs.Halves.{Halves, turned, half_conn}

-- What grows within S without e from e's first relation is the part.
part_grown : (J : Joins) (n S e : ℕ) → S < 2 ^ n → bit S (first J e) ≡ 1 → Grown J S e (2 ^ first J e) (part J n S e)
unfolding part
part_grown J n S e h p = growth_least J S e n (2 ^ first J e) (sub_single S (first J e) p) (enough n S (first J e) h)

module _ (J : Joins) (n : ℕ) (t : Tree J n) (S e : ℕ) (l : e < J.count) (below : S < 2 ^ n) (c : Conn J S) (f : bit S (first J e) ≡ 1)
    (g : bit S (second J e) ≡ 1) where
  -- Where S is split by the side, its halves are linked by e alone.
  halves : (P R : ℕ) → ((r : ℕ) → bit P r ≡ min (bit S r) (bit (side J n e) r)) → ((r : ℕ) → bit R r ≡ bit S r - bit (side J n e) r)
      → Halves J S P R (first J e) (second J e)
  halves P R p r =
      record {
        sums = λ i. omega (arith, p i, r i, bit_le S i, bit_le (side J n e) i);
        here = omega (arith, p (first J e), side_first J n t e l);
        there = omega (arith, r (second J e), side_second J n t e l);
        link = λ i b u w. elim (ℕ_discrete i e) [
          | yes q ↦ inr (λ B h. subst (λ (j : ℕ). bit B (first J j) ≡ bit B (second J j)) (sym q) h)
          | no q ↦ inl (omega (arith, p (first J i), p (second J i), side_other J n t e l i b q))
        ];
      }

  masked : ℕ
  masked = bit_and S (side J n e)

  masked_bit : (r : ℕ) → bit masked r ≡ min (bit S r) (bit (side J n e) r)
  unfolding masked
  masked_bit r = bit_and_lem S (side J n e) r

  masked_conn : Conn J masked
  unfolding masked
  masked_conn = half_conn J S masked (S - masked) (first J e) (second J e) c (halves masked (S - masked) masked_bit (bit_less S (side J n e)))

  masked_grown : Grown J S e (2 ^ first J e) masked
  masked_grown = record {
    has = sub_single masked (first J e) first_in;
    within = λ r. omega (arith, masked_bit r);
    closed = λ i b d u w. omega (arith, masked_bit (first J i), masked_bit (second J i), side_other J n t e l i b d);
    least = λ C k s. masked_conn.whole C (λ i b d u w.
        k i b (λ q. omega (arith, subst (λ (j : ℕ). bit masked (second J j) ≡ 1) q w, masked_bit (second J e), side_second J n t e l))
        (omega (arith, u, masked_bit (first J i), bit_le S (first J i))) (omega (arith, w, masked_bit (second J i), bit_le S (second J i))))
        (first J e) first_in (omega (arith, s (first J e), bit_pow (first J e), bit_le C (first J e)));
  }
    where
      first_in : bit masked (first J e) ≡ 1
      first_in = omega (arith, masked_bit (first J e), f, side_first J n t e l)

  pub part_masked : part J n S e ≡ bit_and S (side J n e)
  unfolding masked
  part_masked = grown_unique J S e (2 ^ first J e) (part J n S e) masked (part_grown J n S e below f) masked_grown

  masked_within : Sub masked S
  masked_within r = omega (arith, masked_bit r)

  conn_split : Split J n S e (parts_by S (side J n e))
  unfolding masked
  conn_split =
      let two = halves masked (S - masked) masked_bit (bit_less S (side J n e)) in
      record {
        first_part = of_conn J n masked (below_of_sub masked S n masked_within below) masked_conn;
        second_part = of_conn J n (S - masked) (omega (arith, below))
            (half_conn J S (S - masked) masked (second J e) (first J e) c (turned J S masked (S - masked) (first J e) (second J e) two));
        first_in = two.here;
        second_in = two.there;
        apart = sub_apart masked S masked_within;
        whole = sub_whole masked S masked_within;
      }

pub split : SplitLaw
split J n t S e s l h =
    let ends = inside_ends J S e h in conn_split J n t S e l (subquery_range J n S s).1 (conn_of J n S s) ends.0 ends.1

pub part_by_side : PartBySide
part_by_side J n t S e s l h =
    let ends = inside_ends J S e h in part_masked J n t S e l (subquery_range J n S s).1 (conn_of J n S s) ends.0 ends.1

-- The same of the parts that growth gives.
abbrev pub grown_parts : Joins → (n S e : ℕ) → Parts
grown_parts J n S e = record { first = part J n S e; second = rest J n S e }

pub grown_split : (J : Joins) (n : ℕ) → Tree J n → (S e : ℕ) → Subquery J n S → e < J.count → inside J S e ≡ true → Split J n S e (grown_parts J n S e)
grown_split J n t S e s l h = rw (part_by_side J n t S e s l h) (split J n t S e s l h)

-- Both parts are numbers below S, and their counts of relations add up to that of S, so that each has fewer.
pub record Smaller (S P R : ℕ) : Type 0 where
  pub first_less : P < S
  pub second_less : R < S
  pub count : ones S ≡ ones P + ones R
  pub first_fewer : ones P < ones S
  pub second_fewer : ones R < ones S

pub split_smaller : (J : Joins) (n S e : ℕ) (p : Parts) → Split J n S e p → Smaller S p.first p.second
split_smaller J n S e p s =
    let one = (subquery_range J n p.first s.first_part).0 in
    let other = (subquery_range J n p.second s.second_part).0 in
    let sum = rw s.whole at (ones_add p.first p.second s.apart) in
    record {
      first_less = omega (arith, s.whole, other);
      second_less = omega (arith, s.whole, one);
      count = sum;
      first_fewer = omega (arith, sum, ones_pos p.second other);
      second_fewer = omega (arith, sum, ones_pos p.first one);
    }
