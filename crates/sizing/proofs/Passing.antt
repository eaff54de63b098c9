-- The loop over all sets, by the table: what it stands on, and what each turn asks and gives.
use Prim.Native.Nat.{ℕ, ◌+◌, ◌^◌, ◌≤◌, ◌<◌}
use native.Mathlib.Omega.{arith}
use mathlib.Core.Path.{◌≡◌, refl, sym, ap, subst, ◌∙◌}
use mathlib.Core.Bool.{Bool, true, false}
use mathlib.Core.List.{List}
use lib.ListN.{length, get_or, replicate, length-replicate}
use lib.Pow.{pow_mono}
use Rattle.relations.specs.Code.{Drawn, Listed, most_sets}
use Rattle.relations.specs.declared.Joins.{Joins}
use Rattle.relations.specs.Trees.{is_subquery}
use Rattle.subqueries.specs.Table.{Tabled, is_connected}
use Rattle.subqueries.proofs.Entries.{tested}
use Rattle.query.proofs.Limits.{zeros_up_to}
use Rattle.sizing.specs.Worked.{worked_sizes}
use Rattle.sizing.specs.Code.{Counts, neighbours, Lists, Long, Begun, Extended, Startable, Extendable}
use Rattle.sizing.proofs.Reaching.{Reached, reached_first, reached_past, reached_here, reached_next, reached_all}

-- What the code stands on from the first set to the last.
pub record Standing (J : Joins) (table rows divisors near : List ℕ) : Type 0 where
  pub tabled : Tabled J table
  pub rows_in : Counts rows
  pub divisors_in : Counts divisors
  pub near_is : Listed near (neighbours J) 9 (J.count + 1)

pub standing :
    {J : Joins} {table rows divisors near : List ℕ} → Tabled J table → Counts rows × Counts divisors → Listed near (neighbours J) 9 (J.count + 1) →
    Standing J table rows divisors near
standing t c l = record { tabled = t; rows_in = c.0; divisors_in = c.1; near_is = l }

-- A set below a power of two is below every greater one.
pub below_all : (S end k n : ℕ) → S < end → end ≡ 2 ^ k → k ≤ n → S < 2 ^ n
below_all S end k n h e l = omega (arith, pow_mono l)

-- What holds of joins by a table, and of lists of zeros.
pub drawn_tabled : (J : Joins) (table : List ℕ) → Tabled J table → Drawn J
drawn_tabled J table t = record { few = t.few; first_in = t.tree.first_in; second_in = t.tree.second_in }

pub zeros_long : (l : Lists) → l.sizes ≡ replicate most_sets 0 → l.waiting ≡ replicate most_sets 0 → Long l
zeros_long l e q = record { sizes_long = ap length e ∙ length-replicate {A = ℕ} most_sets 0; waiting_long = ap length q ∙ length-replicate {A = ℕ} most_sets 0 }

module _ (J : Joins) (table rows divisors near : List ℕ) (s : Standing J table rows divisors near) where
  nine : J.count + 1 ≤ 9
  nine = omega (arith, s.tabled.few)

  pub startable : (l : Lists) → Long l → Startable J near l
  startable l long = record { few = s.tabled.few; tree = s.tabled.tree; near_is = s.near_is; long = long }

  pub started :
      (old new : Lists) → Begun J (J.count + 1) rows divisors old new (J.count + 1) → old.sizes ≡ replicate most_sets 0 →
      Reached J (J.count + 1) rows divisors new 1
  started old new b e =
      reached_first J (J.count + 1) s.tabled.tree rows divisors old new b (λ X. ap (λ (l : List ℕ). get_or l X 0) e ∙ omega (arith, zeros_up_to 0 most_sets X))

  pub set_place : (S : ℕ) → S < 2 ^ (J.count + 1) → S < most_sets
  set_place S h = omega (arith, pow_mono {i = J.count + 1} {j = 9} nine)

  module _ (l : Lists) (S : ℕ) (h : S < 2 ^ (J.count + 1)) (r : Reached J (J.count + 1) rows divisors l S) (d : Bool)
      (is : d ≡ is_connected (get_or table S 0)) where
    test : d ≡ is_subquery J (J.count + 1) S
    test = tested J table S (2 ^ (J.count + 1)) d s.tabled is h refl

    pub extendable : d ≡ true → Extendable J (J.count + 1) table rows divisors near l S
    extendable t = record {
      few = s.tabled.few;
      tree = s.tabled.tree;
      entries = s.tabled.entries;
      near_is = s.near_is;
      rows_in = s.rows_in;
      divisors_in = s.divisors_in;
      long = r.long;
      subquery = sym test ∙ t;
      right = reached_here J (J.count + 1) s.tabled.tree rows divisors S l (sym test ∙ t) r;
    }

    pub goes_on :
        (new : Lists) → d ≡ true → (Extendable J (J.count + 1) table rows divisors near l S → Extended J (J.count + 1) rows divisors S l new) →
        Reached J (J.count + 1) rows divisors new (S + 1)
    goes_on new t x = reached_next J (J.count + 1) s.tabled.tree rows divisors S l new (sym test ∙ t) r (x (extendable t))

    pub passes : d ≡ false → Reached J (J.count + 1) rows divisors l (S + 1)
    passes f = reached_past J (J.count + 1) s.tabled.tree rows divisors S l (sym test ∙ f) r

  pub worked_out :
      (l : Lists) (S : ℕ) → S ≡ 2 ^ (J.count + 1) → Reached J (J.count + 1) rows divisors l S → l.sizes ≡ worked_sizes J (J.count + 1) rows divisors
  worked_out l S last r =
      reached_all J (J.count + 1) s.tabled.tree rows divisors l nine (subst (λ (x : ℕ). Reached J (J.count + 1) rows divisors l x) last r)
