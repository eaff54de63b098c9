-- A plan that the solver finds lies whole in its array, and is what its front has.
use Prim.Native.Nat.{ℕ, ◌+◌, ◌≤◌}
use native.Mathlib.Omega.{arith}
use mathlib.Core.Path.{◌≡◌, sym, ◌∙◌}
use mathlib.Core.List.{List}
use lib.ListN.{length, take, drop}
use lib.Seq.{length-take-le, take-append_seam}
use Rattle.query.specs.declared.Query.{Query}
use Rattle.query.specs.declared.Charge.{Charge}
use Rattle.query.specs.Cost.{Cost, none, some}
use Rattle.query.specs.Query.{Valid}
use Rattle.rules.specs.Allowed.{longest_plan}
use Rattle.rules.proofs.Combinations.{plus_combines}
use Rattle.solver.specs.declared.Solution.{Solution}
use Rattle.solver.specs.declared.Solution.TheVariants.{Found}
use Rattle.solver.specs.Solution.{solution_of, plan_after}
use Rattle.tables.specs.Tables.{cheapest, trials}
use Rattle.tables.specs.Written.{written}
use Rattle.tables.proofs.Upper.{written_most}

module _ (q : Query) (c : Charge) (l t : ℕ) where
  -- By what the query costs.
  found_by : (x : Cost) → solution_of q x ≡ Found c l t → (x ≡ some c.0) × (l ≡ length (written ◌+◌ q)) × (t ≡ trials q)
  found_by none e = absurd (let z : ◌≡◌ {A = ℕ} 0 1 = cc in omega arith)
  found_by (some d) e = (cc, cc, cc)

  module _ (r : Solution) (answer : r ≡ solution_of q (cheapest ◌+◌ q)) (is : r ≡ Found c l t) where
    pub found_is : (cheapest ◌+◌ q ≡ some c.0) × (l ≡ length (written ◌+◌ q)) × (t ≡ trials q)
    found_is = found_by (cheapest ◌+◌ q) (sym answer ∙ is)

    -- It is no longer than a plan may be.
    pub found_short : Valid q → l ≤ longest_plan
    found_short valid = rw found_is.1 (written_most ◌+◌ plus_combines q valid c.0 found_is.0)

    -- As the solver leaves its array.
    module _ (plan old : List ℕ) (left : plan ≡ plan_after (cheapest ◌+◌ q) (written ◌+◌ q) old) where
      pub found_front : (take l plan ≡ written ◌+◌ q) × (cheapest ◌+◌ q ≡ some c.0) × (l ≡ length (written ◌+◌ q)) × (t ≡ trials q)
      found_front =
          let f = found_is in
          (rw (left, f.0, f.1) (take-append_seam (written ◌+◌ q) (drop (length (written ◌+◌ q)) old)), f.0, f.1, f.2)

      -- As many bytes of an output that has room.
      pub found_alike : (out : List ℕ) → l ≤ length out → length (take l out) ≡ length (take l plan)
      found_alike out h = let f = found_front in length-take-le l out h ∙ rw f.0 f.2

pub ruleset solving = (found_short, found_front, found_alike)
