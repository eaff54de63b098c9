-- The text of a listing has a line end for the answer, and one for each step of a plan: as many as `on_solved` counts.
use Rattle.std.proofs.Common.{◌≡◌, ℕ, zero, suc, ◌+◌, ◌*◌, ◌/◌, ◌%◌, ◌<◌, ◌≤◌, ◌==◌, Bool, true, false, cond, List, [], ◌∷◌, ◌++◌, length, get_or, drop, ltb, codes, decimal, Result, Ok, Err, refl, ap, ◌∙◌, arith, append_assoc, length-append, length-drop, lt-ltb, ne_eqb}
use Rattle.std.specs.Fmt.{digit_glyph, digits_onto, digits}
use Rattle.std.proofs.lemmas.List.Sums.{sum_by-cons, sum_by-append}
use Rattle.std.proofs.Math.Option.{none, some}
use Rattle.query.specs.declared.refusal.Refusal.{Refusal}
use Rattle.query.specs.Refusals.{number_of}
use Rattle.query.specs.Cost.{Cost}
use Rattle.query.specs.declared.Query.{Query}
use Rattle.query.proofs.Choice.{pick_all}
use Rattle.tables.specs.Tables.{cheapest, trials}
use Rattle.tables.specs.Work.{cells_needed}
use Rattle.tables.specs.Written.{written, written_steps}
use Rattle.tables.proofs.StepBytes.{step_bytes_long}
use Rattle.planner.specs.declared.Solution.{Solution}
use Rattle.planner.specs.declared.Solution.TheVariants.{Found, NoRoute}
use Rattle.planner.specs.State.{State}
use Rattle.planner.specs.Code.{of_solve}
use Rattle.planner.specs.Solve.{Solving, writing, solved, solve, blank}
use Rattle.plan.specs.Lines.{line_ends, on_solved}
use Rattle.plan.specs.Text.{word, step_text, steps_text, plan_text, text_of}

ends_append : (a b : List ℕ) → line_ends (a ++ b) ≡ line_ends a + line_ends b
unfolding line_ends
ends_append a b = sum_by-append (λ x. cond (x == 10) 1 0) a b

either_ends : (b : Bool) (n : ℕ) (xs ys : List ℕ) → line_ends xs ≡ n → line_ends ys ≡ n → line_ends (cond b xs ys) ≡ n
either_ends true n xs ys x y = x
either_ends false n xs ys x y = y

-- A number has none.
ends_digit : (d : ℕ) (acc : List ℕ) → d < 10 → line_ends (digit_glyph false d ∷ acc) ≡ line_ends acc
unfolding line_ends
ends_digit d acc small = rw (lt-ltb d 10 small) (sum_by-cons (λ x. cond (x == 10) 1 0) (48 + d) acc ∙ rw (ne_eqb (48 + d) 10 (λ e. omega arith)) (omega arith))

ends_onto : (k n : ℕ) (acc : List ℕ) → line_ends (digits_onto k 10 false n acc) ≡ line_ends acc
ends_onto zero n acc = refl
ends_onto (suc k) n acc =
    let digit = ends_digit (n % 10) acc (omega arith) in
    either_ends (n / 10 == 0) _ _ _ digit (ends_onto k (n / 10) (digit_glyph false (n % 10) ∷ acc) ∙ digit)

ends_decimal : (n : ℕ) → line_ends (decimal n) ≡ 0
unfolding digits line_ends
ends_decimal n = ends_onto 64 n []

-- What has none may stand before a number.
ends_part : (a : List ℕ) (n : ℕ) (rest : List ℕ) → line_ends a ≡ 0 → line_ends (a ++ (decimal n ++ rest)) ≡ line_ends rest
ends_part a n rest h = ends_append a (decimal n ++ rest) ∙ rw (h, ends_append (decimal n) rest, ends_decimal n) (omega arith)

-- Each step is a line.
kinds : (line_ends (word 1) ≡ 0) × ((line_ends (word 2) ≡ 0) × (line_ends (word 3) ≡ 0))
unfolding line_ends
kinds = (refl, (refl, refl))

ends_word : (kind : ℕ) → line_ends (word kind) ≡ 0
ends_word kind = let (load, (send, join)) = kinds in either_ends (kind == 1) 0 _ _ load (either_ends (kind == 2) 0 _ _ send join)

ends_step : (kind arg : ℕ) (rest : List ℕ) → line_ends ((step_text kind arg ++ codes "\n") ++ rest) ≡ 1 + line_ends rest
unfolding line_ends
ends_step kind arg rest =
    ends_append (step_text kind arg ++ codes "\n") rest
    ∙ ap (λ k. k + line_ends rest) (ap line_ends (append_assoc (word kind) (decimal arg) (codes "\n")) ∙ ends_part (word kind) arg (codes "\n") (ends_word kind))

ends_steps : (n : ℕ) (bytes : List ℕ) → 2 * n ≤ length bytes → line_ends (steps_text n bytes) ≡ n
unfolding steps_text line_ends
ends_steps zero bytes room = refl
ends_steps (suc n) [] room = absurd (omega arith)
ends_steps (suc n) (kind ∷ []) room = absurd (omega arith)
ends_steps (suc n) (kind ∷ arg ∷ bytes) room =
    let rest = ends_steps n bytes (omega arith) in
    ends_step kind arg (steps_text n bytes) ∙ omega arith

-- So many steps have room in an output.
abbrev pub HasSteps : List ℕ → Type 0
HasSteps output = 1 + 2 * get_or output 0 0 ≤ length output

-- The answer is a line.
ends_plan : (c t : ℕ) (plan : List ℕ) → HasSteps plan → line_ends (plan_text c t plan) ≡ 1 + get_or plan 0 0
unfolding line_ends
ends_plan c t plan room =
    let n : ℕ = get_or plan 0 0 in
    let steps : List ℕ = steps_text n (drop 1 plan) in
    let trials : List ℕ = codes " trials " ++ (decimal t ++ (codes "\n" ++ steps)) in
    ends_part (codes "plan ") n (codes " cost " ++ (decimal c ++ trials)) refl
    ∙ ends_part (codes " cost ") c trials refl
    ∙ ends_part (codes " trials ") t (codes "\n" ++ steps) refl
    ∙ ends_append (codes "\n") steps
    ∙ ap (λ k. 1 + k) (ends_steps n (drop 1 plan) (omega (arith, length-drop 1 plan)))

pub ends_text : (answer : Result Solution Refusal) (output : List ℕ) → HasSteps output → line_ends (text_of answer output) ≡ on_solved (of_solve answer) output
unfolding line_ends
ends_text (Ok (Found c l t)) output room = ends_plan c.0 t output room
ends_text (Ok (NoRoute t)) output room = ends_part (codes "no route trials ") t (codes "\n") refl
ends_text (Err r) output room = ends_part (codes "refused ") (number_of r) (codes "\n") refl

-- What solve leaves has room for its steps: a plan's are two bytes each behind their count, and what is not written stays.
front_room : (plan rest : List ℕ) → HasSteps plan → HasSteps (plan ++ rest)
front_room [] rest room = absurd (omega arith)
front_room (n ∷ bytes) rest room = omega (arith, length-append bytes rest)

writing_room : (c t : ℕ) (plan out : List ℕ) → HasSteps plan → HasSteps out → HasSteps (writing c t plan out).output
writing_room c t plan out p o = pick_all (λ (x : Solving). HasSteps x.output) (ltb (length out) (length plan)) _ _ (λ e. o) (λ e. front_room plan (drop (length plan) out) p)

solved_room : (q : Query) (c : Cost) (out : List ℕ) → HasSteps out → HasSteps (solved q c out).output
solved_room q Cost.none out o = o
solved_room q (Cost.some c) out o = writing_room c (trials q) (written ◌+◌ q) out (omega (arith, step_bytes_long (written_steps ◌+◌ q))) o

pub solve_room : (n : ℕ) (out : List ℕ) (s : State) → HasSteps out → HasSteps (solve n out s).output
unfolding solve
solve_room n out none o = o
solve_room n out (some q) o = pick_all (λ (x : Solving). HasSteps x.output) (ltb n (cells_needed q)) _ _ (λ e. o) (λ e. solved_room q (cheapest ◌+◌ q) out o)

pub blank_room : HasSteps blank
blank_room = omega arith
