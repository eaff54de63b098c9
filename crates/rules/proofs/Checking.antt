-- The bytes of a plan after its count, two a step: as the code cuts them they are the steps of the rules.
use Rattle.std.proofs.Common.{◌≡◌, ℕ, zero, suc, ◌+◌, ◌-◌, ◌*◌, ◌/◌, ◌≤◌, Bool, true, ◌&&◌, eqb, leb, List, [], ◌∷◌, length, get_or, map, take, drop, refl, sym, ap, ◌∙◌, arith}
use Rattle.std.proofs.lemmas.List.{take_all}
use Rattle.std.specs.Simd.{first_chunks}
use borrow.Author.Tests.{eqb-true}
use Rattle.relations.proofs.Leads.{both_true}
use Rattle.query.specs.declared.Query.{Query}
use Rattle.rules.specs.Machine.{start}
use Rattle.rules.specs.Allowed.{most_steps, steps_of, Verdict, run, checked}
use Rattle.rules.specs.Code.{step_of_bytes}

abbrev rest : List ℕ → List ℕ
rest plan = take (length plan - 1) (drop 1 plan)

abbrev is_whole : List ℕ → Bool
is_whole plan = (leb 1 (get_or plan 0 0) && leb (get_or plan 0 0) most_steps) && eqb (length (rest plan)) (2 * get_or plan 0 0)

rest_is : (count : ℕ) (bytes : List ℕ) → rest (count ∷ bytes) ≡ bytes
rest_is count bytes = take_all (suc (length bytes) - 1) bytes (omega arith)

pairs : (n : ℕ) (bytes : List ℕ) → length bytes ≡ 2 * n → map step_of_bytes (first_chunks 2 n bytes) ≡ steps_of bytes
pairs zero [] e = refl
pairs (suc n) (k ∷ (a ∷ bytes)) e = ap (λ xs. record { kind = k; arg = a } ∷ xs) (pairs n bytes (omega arith))
pairs zero (k ∷ bytes) e = absurd (omega arith)
pairs (suc n) [] e = absurd (omega arith)
pairs (suc n) (k ∷ []) e = absurd (omega arith)

-- So where the plan is whole, its steps are run.
pub plan_run : (q : Query) (plan : List ℕ) (b : Bool) (v : Verdict) (steps : List (List ℕ)) → 1 ≤ length plan → b ≡ is_whole plan → b ≡ true →
    steps ≡ first_chunks 2 (length (rest plan) / 2) (rest plan) → v ≡ run ◌+◌ q 0 (map step_of_bytes steps) start → v ≡ checked ◌+◌ q plan
unfolding checked
plan_run q [] b v steps l e t f r = absurd (omega arith)
plan_run q (count ∷ bytes) b v steps l e t f r =
    let test : b ≡ ((leb 1 count && leb count most_steps) && eqb (length bytes) (2 * count)) = rw rest_is at e in
    let whole = both_true (leb 1 count && leb count most_steps) (eqb (length bytes) (2 * count)) (sym test ∙ t) in
    let long : length bytes ≡ 2 * count = eqb-true (length bytes) (2 * count) whole.1 in
    let half : length bytes / 2 ≡ count = omega arith in
    let cut : steps ≡ first_chunks 2 (length bytes / 2) bytes = rw rest_is at f in
    r ∙ rw (← test, t, cut, half, pairs count bytes long)
