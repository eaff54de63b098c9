-- The numbers that the report server's call returns: load refuses 1 to 5, a written plan has a byte and at most as many as the longest, and no other refusal
-- is left.
use Prim.Native.Nat.{ℕ, ◌+◌, ◌≤◌}
use native.Mathlib.Omega.{arith}
use mathlib.Core.Path.{◌≡◌, refl}
use mathlib.Core.List.{List}
use mathlib.Core.Option.{none}
use lib.ListN.{length}
use lib.Dec.{ltb}
use borrow.Author.Tests.{ltb-true}
use Rattle.query.specs.declared.Query.{Query}
use Rattle.query.specs.Cost.{Cost}
use Rattle.query.specs.Query.{Valid}
use Rattle.query.proofs.Choice.{pick_all}
use Rattle.sections.specs.Fields.{Read, value}
use Rattle.sections.specs.Fields as fields
use Rattle.decoder.specs.Decode.{decode}
use Rattle.decoder.specs.declared.Form.TheVariants as form
use Rattle.decoder.proofs.Refusals.{decode_refusals}
use Rattle.decoder.proofs.Valid.{decode_valid}
use Rattle.rules.specs.Allowed.{longest_plan}
use Rattle.rules.proofs.Combinations.{plus_combines}
use Rattle.tables.specs.Tables.{cheapest, trials}
use Rattle.tables.specs.Written.{written}
use Rattle.tables.proofs.Upper.{written_most}
use Rattle.planner.specs.Load.{load_decoded, load_by}
use Rattle.planner.specs.Solve.{Solving, writing, solved}
use Rattle.planner.proofs.Cells.{solve_needed_lem}
use Rattle.fanchuki.specs.Served.{on_solved, on_loaded, serve, Number, plan, no_route, of_the_file, short_output, EveryNumber}

-- A plan is written where it fits.
written_number : (c t : ℕ) (p out : List ℕ) → 1 ≤ length p → length p ≤ longest_plan → Number (length out) (on_solved (writing c t p out).answer)
written_number c t p out some_bytes most =
    pick_all (λ (x : Solving). Number (length out) (on_solved x.answer)) (ltb (length out) (length p)) _ _
    (λ e. short_output (omega (arith, ltb-true (length out) (length p) e)) (omega arith))
    (λ e. plan (length p) some_bytes most)

solved_number : (q : Query) → Valid q → (c : Cost) → cheapest ◌+◌ q ≡ c → (out : List ℕ) → Number (length out) (on_solved (solved q c out).answer)
solved_number q valid Cost.none e out = no_route
solved_number q valid (Cost.some c) e out = written_number c (trials q) (written ◌+◌ q) out (omega arith) (written_most ◌+◌ plus_combines q valid c e)

pub every_number : EveryNumber
unfolding serve load_by
every_number query out = go (decode form.Sizes query) (decode_refusals form.Sizes query) (λ q l e. decode_valid form.Sizes query q l e)
  where
    go :
        (x : Read Query) → ((k : ℕ) → x ≡ fields.refused k → (1 ≤ k) × (k ≤ 5)) → ((q : Query) (l : List ℕ) → x ≡ value q l → Valid q) →
        Number (length out) (on_loaded (load_decoded x none).answer (load_decoded x none).next out).number
    go (fields.refused k) h v = of_the_file k (h k refl).0 (h k refl).1 (omega arith)
    go (value q l) h v = rw (solve_needed_lem q out) (solved_number q (v q l refl) (cheapest ◌+◌ q) refl out)
