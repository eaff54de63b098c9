-- The relations of a subquery join in one after another: as long as some are not taken, one of them is adjacent to those taken, since a subquery has
-- no proper part that no join leads out of. So those taken stay a subquery, one more each time, until all are in.
use Prim.Native.Nat.{ℕ, zero, suc, ◌+◌, ◌-◌, ◌^◌, ◌≤◌, ◌<◌}
use native.Mathlib.Nat.{eq-or-lt_of_le, le_of_suc-le-suc}
use native.Mathlib.Decide.{dec_lt}
use native.Mathlib.Omega.{arith}
use mathlib.Core.Path.{◌≡◌, refl, sym, ap, subst}
use mathlib.Core.Logic.{inl, inr}
use lib.Count.{ones}
use Rattle.relations.specs.declared.Joins.{Joins}
use Rattle.relations.specs.Sets.{bit, Sub, lowest}
use Rattle.relations.specs.Growth.{first, second, Closed}
use Rattle.relations.specs.Trees.{Tree, Subquery}
use Rattle.relations.proofs.Bits.{bit_le, bit_pow, bit_put, bit_range, sub_single, put_new}
use Rattle.relations.proofs.Counts.{ones_mono, ones_pow, ones_more, ones_pos, sub_full, lowest_in, lowest_below}
use Rattle.relations.proofs.Connected.{conn_of, subquery_range}
use Rattle.relations.proofs.Subqueries.{subqueries_law}
use Rattle.sizing.specs.Worked.{next, taken_after}
use Rattle.sizing.specs.Theorems.{StepsLaw}
use Rattle.sizing.proofs.Adjacent.{Ready, links_of, next_ready, next_least}
use Rattle.sizing.proofs.OnlyJoin.{with_adjacent}

-- What is taken stays taken.
pub taken_more : (J : Joins) (n S k : ℕ) → Sub (taken_after J n S k) (taken_after J n S (suc k))
unfolding taken_after
taken_more J n S k r = omega (arith, bit_put (taken_after J n S k) (next J n S (taken_after J n S k)) r)

pub taken_upto : (J : Joins) (n S j k : ℕ) → j ≤ k → Sub (taken_after J n S j) (taken_after J n S k)
taken_upto J n S j zero h = let e : j ≡ 0 = omega arith in subst (λ (x : ℕ). Sub (taken_after J n S x) (taken_after J n S 0)) (sym e) (λ r. omega arith)
taken_upto J n S j (suc k) h = elim (eq-or-lt_of_le h) [
  | inl e ↦ subst (λ (x : ℕ). Sub (taken_after J n S x) (taken_after J n S (suc k))) (sym e) (λ r. omega arith)
  | inr l ↦ λ r. omega (arith, taken_upto J n S j k (le_of_suc-le-suc l) r, taken_more J n S k r)
]

module _ (J : Joins) (n : ℕ) (t : Tree J n) (S : ℕ) (s : Subquery J n S) where
  -- Some relation is ready where not all are taken.
  module _ (T : ℕ) (c : Subquery J n T) (within : Sub T S) (fewer : ones T < ones S) where
    pub next_in : next J n S T < n
    next_in = elim (dec_lt (next J n S T) n) [ yes l ↦ l | no l ↦ absurd (stuck l) ]
      where
        unready : (next J n S T < n → ⊥) → (r : ℕ) → Ready J S T r → ⊥
        unready l r h = l (omega (arith, next_least J n S T r h, bit_range S n r (subquery_range J n S s).1 h.of_set))

        closed : (next J n S T < n → ⊥) → Closed J S J.count T
        closed l e k d p q = go (bit T (first J e)) refl (bit T (second J e)) refl
          where
            go : (a : ℕ) → bit T (first J e) ≡ a → (b : ℕ) → bit T (second J e) ≡ b → bit T (first J e) ≡ bit T (second J e)
            go zero x zero y = omega arith
            go zero x (suc b) y =
                absurd (unready l (first J e) (record { of_set = p; free = x; near = (e, k, links_of J T (first J e) e (inl (refl, omega (arith, bit_le T (second J e))))) }))
            go (suc a) x zero y =
                absurd (unready l (second J e) (record { of_set = q; free = y; near = (e, k, links_of J T (second J e) e (inr (refl, omega (arith, bit_le T (first J e))))) }))
            go (suc a) x (suc b) y = omega (arith, bit_le T (first J e), bit_le T (second J e))

        stuck : (next J n S T < n → ⊥) → ⊥
        stuck l =
            let m = conn_of J n T c in
            let here : bit S m.some ≡ 1 = omega (arith, within m.some, m.some_in, bit_le S m.some) in
            omega (arith, ones_mono S T ((conn_of J n S s).whole T (closed l) m.some here m.some_in))

  -- Where it stands after k steps.
  pub record At (k : ℕ) : Type 0 where
    pub within : Sub (taken_after J n S k) S
    pub connected : Subquery J n (taken_after J n S k)
    pub count : ones (taken_after J n S k) ≡ k + 1
    pub root : bit (taken_after J n S k) (lowest n S) ≡ 1

  -- The next step, where not all are in.
  pub record Next (k : ℕ) : Type 0 where
    pub low : next J n S (taken_after J n S k) < n
    pub is_ready : Ready J S (taken_after J n S k) (next J n S (taken_after J n S k))
    pub sum : taken_after J n S (suc k) ≡ taken_after J n S k + 2 ^ next J n S (taken_after J n S k)

  after_at : (k : ℕ) → suc k < ones S → At k → Next k
  unfolding taken_after
  after_at k h a =
      let l = next_in (taken_after J n S k) a.connected a.within (omega (arith, a.count)) in
      let r = next_ready J n S (taken_after J n S k) l in
      record { low = l; is_ready = r; sum = put_new (taken_after J n S k) (next J n S (taken_after J n S k)) r.free }

  pub at : (k : ℕ) → k < ones S → At k
  unfolding taken_after
  at zero h =
      let range = subquery_range J n S s in
      let here = lowest_in n S range.0 range.1 in
      record {
        within = sub_single S (lowest n S) here;
        connected = (subqueries_law J n t).single (lowest n S) (lowest_below n S range.0 range.1);
        count = ones_pow (lowest n S);
        root = bit_pow (lowest n S);
      }
  at (suc k) h =
      let a = at k (omega arith) in
      let m = after_at k h a in
      let T = taken_after J n S k in
      let r = next J n S T in
      record {
        within = λ x. omega (arith, bit_put T r x, a.within x, sub_single S r m.is_ready.of_set x);
        connected = subst (λ (x : ℕ). Subquery J n x) (sym m.sum) (with_adjacent J n t T r a.connected m.low m.is_ready.free m.is_ready.near);
        count = omega (arith, ap ones m.sum, ones_more T r m.is_ready.free, a.count);
        root = omega (arith, taken_more J n S k (lowest n S), a.root, bit_le (taken_after J n S (suc k)) (lowest n S));
      }

  pub step_from : (k : ℕ) → suc k < ones S → Next k
  step_from k h = after_at k h (at k (omega arith))

  pub some_relation : 0 < ones S
  some_relation = ones_pos S (subquery_range J n S s).0

  pub all_taken : taken_after J n S (ones S - 1) ≡ S
  all_taken =
      let a = at (ones S - 1) (omega (arith, some_relation)) in
      sub_full (taken_after J n S (ones S - 1)) S a.within (omega (arith, a.count, some_relation))

pub steps_law : StepsLaw
steps_law J n t S s = record {
  taken_connected = λ k h. (at J n t S s k h).connected;
  taken_count = λ k h. (at J n t S s k h).count;
  all_in = all_taken J n t S s;
}
