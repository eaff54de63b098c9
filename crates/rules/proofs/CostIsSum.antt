-- The figure at which a plan is accepted is the sum over its sends and joins: each step adds its own price to the sum of the held figures,
-- and at the end one result is held.
use Prim.Native.Nat.{ℕ, suc, ◌+◌, ◌*◌}
use mathlib.Core.Path.{◌≡◌}
use mathlib.Core.Bool.{Bool, true, false, ◌&&◌}
use mathlib.Core.List.{List, [], ◌∷◌}
use lib.ListN.{length}
use lib.Dec.{eqb, leb}
use native.Mathlib.Omega.{arith}
use Rattle.relations.specs.Sets.{all}
use Rattle.relations.proofs.Leads.{clash}
use Rattle.query.specs.declared.Query.{Query}
use Rattle.query.specs.Choice.{pick}
use Rattle.query.specs.Query.{relations_of}
use Rattle.rules.specs.declared.Held.{Held}
use Rattle.rules.specs.Machine.{Step, Machine, start, Outcome, went, refused, step}
use Rattle.rules.specs.Allowed.{most_steps, steps_of, Verdict, accepted, rejected, after, finish, run, checked, step_price, spent_after, spent}
use Rattle.rules.specs.Code.{figures}
use Rattle.rules.specs.Theorems.{CostIsSum}
use Rattle.rules.proofs.Steps.{Cases, step_case}

-- An outcome that went holds figures of the sum x; a verdict that accepts does so at x.
abbrev Totals : Outcome → ℕ → Type 0
Totals (went m) x = figures m.stack ≡ x
Totals (refused k) x = Unit {0}

abbrev Costs : Verdict → ℕ → Type 0
Costs (accepted c) x = c ≡ x
Costs (rejected k i) x = Unit {0}

-- A step adds its price to the sum.
adds : (q : Query) → Cases ◌+◌ q (λ m o p. Totals o (figures m.stack + p))
adds q =
    record {
      loads = λ m r may. omega arith;
      sends = λ L t h hs may. omega arith;
      joins = λ L e a b hs may. omega arith;
      refuses = λ m k p. tt;
    }

finish_costs : (q : Query) (i : ℕ) (hs : List Held) → Costs (finish q i hs) (figures hs + 0)
unfolding finish
finish_costs q i [] = tt
finish_costs q i (h ∷ []) = go (eqb h.set (all (relations_of q)) && eqb h.site q.target)
  where
    go : (b : Bool) → Costs (pick b (accepted h.figure.0) (rejected 12 i)) (h.figure.0 + 0 + 0)
    go true = omega arith
    go false = tt
finish_costs q i (h ∷ (a ∷ hs)) = tt

run_costs : (q : Query) (i : ℕ) (xs : List Step) (m : Machine) → Costs (run ◌+◌ q i xs m) (figures m.stack + spent q xs m)
unfolding run spent
run_costs q i [] m = finish_costs q i m.stack
run_costs q i (x ∷ xs) m = go (step ◌+◌ q x.kind x.arg m) (step_case ◌+◌ q _ (adds q) x m) (run_costs q (suc i) xs)
  where
    go : (o : Outcome) → Totals o (figures m.stack + step_price q x m) → ((n : Machine) → Costs (run ◌+◌ q (suc i) xs n) (figures n.stack + spent q xs n)) →
        Costs (after i o (run ◌+◌ q (suc i) xs)) (figures m.stack + (step_price q x m + spent_after o (spent q xs)))
    go (went n) adds later = costs_same (run ◌+◌ q (suc i) xs n) _ _ (omega arith) (later n)
      where
        costs_same : (v : Verdict) (x y : ℕ) → x ≡ y → Costs v x → Costs v y
        costs_same (accepted c) x y e h = omega arith
        costs_same (rejected k i) x y e h = tt
    go (refused k) adds later = tt

costs_at : (v : Verdict) (x c : ℕ) → Costs v x → v ≡ accepted c → c ≡ x
costs_at (accepted d) x c h e = cc
costs_at (rejected k i) x c h e = absurd (clash (cc))

pub cost_is_sum : CostIsSum
unfolding checked
cost_is_sum q count bytes c h = go ((leb 1 count && leb count most_steps) && eqb (length bytes) (2 * count)) h
  where
    go : (b : Bool) → pick b (run ◌+◌ q 0 (steps_of bytes) start) (rejected 7 0) ≡ accepted c → c ≡ spent q (steps_of bytes) start
    go true h = omega (arith, costs_at (run ◌+◌ q 0 (steps_of bytes) start) _ c (run_costs q 0 (steps_of bytes) start) h)
    go false h = absurd (clash (cc))
