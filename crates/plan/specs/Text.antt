-- What a listing says, as rule 10.2 has it: a line for the answer, and one for each step.
use Rattle.std.specs.Prelude.{ℕ, zero, suc, ◌==◌, ◌≡◌, if◌then◌else◌, List, [], ◌∷◌, ◌++◌, codes, drop, get_or, Result, Ok, Err}
use Rattle.std.specs.Fmt.{decimal}
use Rattle.query.specs.declared.refusal.Refusal.{Refusal}
use Rattle.query.specs.declared.refusal.Refusal.TheVariants.{NotReached}
use Rattle.planner.specs.declared.Solution.{Solution}
use Rattle.planner.specs.declared.Solution.TheVariants.{NoRoute}
use Rattle.std.proofs.Math.Option.{none}
use Rattle.planner.specs.State.{State}
use Rattle.planner.specs.Load as Load
use Rattle.planner.specs.Solve as Solve
use Rattle.planner.specs.Code.{of_solve}
use Rattle.plan.specs.declared.listing.Listing.{Listing}

-- `load 0`, `send 2`, `join 1`
abbrev pub word : (kind : ℕ) → List ℕ
word kind = if kind == 1 then codes "load " else (if kind == 2 then codes "send " else codes "join ")

abbrev pub step_text : (kind arg : ℕ) → List ℕ
step_text kind arg = word kind ++ decimal arg

-- So many steps, each a byte for its kind and one for its argument.
unfoldable pub steps_text : ℕ → List ℕ → List ℕ
steps_text zero bytes = []
steps_text (suc n) [] = []
steps_text (suc n) (kind ∷ []) = []
steps_text (suc n) (kind ∷ arg ∷ bytes) = (step_text kind arg ++ codes "\n") ++ steps_text n bytes

-- `plan 4 cost 21 trials 3`, and the steps
abbrev pub plan_text : (cost trials : ℕ) → List ℕ → List ℕ
plan_text c t plan =
    codes "plan " ++ (decimal (get_or plan 0 0) ++ (codes " cost " ++ (decimal c ++ (codes " trials " ++ (decimal t ++ (codes "\n" ++
    steps_text (get_or plan 0 0) (drop 1 plan)))))))

-- `refused 4`
abbrev pub refusal : ℕ → List ℕ
refusal k = (codes "refused " ++ decimal k) ++ codes "\n"

-- What is listed of solve's answer: the plan that stands in the output, that there is no route, or the refusal.
abbrev pub said_of : Solve.Answer → (output : List ℕ) → List ℕ
said_of (Solve.found c l t) output = plan_text c t output
said_of (Solve.no_route t) output = codes "no route trials " ++ decimal t ++ codes "\n"
said_of (Solve.refused k) output = refusal k

abbrev pub said_on : Load.Answer → State → List ℕ
said_on (Load.loaded n m) s = said_of (Solve.solve_needed Solve.blank s).answer (Solve.solve_needed Solve.blank s).output
said_on (Load.refused k) s = refusal k

-- What is listed of a file: it is loaded on an empty planner, and solved with as many cells as it needs and room for the longest plan.
unfoldable pub said : List ℕ → List ℕ
said file = said_on (Load.load file none).answer (Load.load file none).next

-- What the code's listing says.
abbrev pub text_of : Result Solution Refusal → List ℕ → List ℕ
text_of answer output = said_of (of_solve answer) output

abbrev pub text : Listing → List ℕ
text l = text_of l.answer l.output

-- The listing of Q, that of no route and that of a refusal, byte by byte; and that of a file with nine sites, which load refuses with 2.
pub record Listings : Type 0 where
  pub q : plan_text 21 3 (4 ∷ 1 ∷ 0 ∷ 1 ∷ 1 ∷ 2 ∷ 0 ∷ 3 ∷ 0 ∷ []) ≡ codes "plan 4 cost 21 trials 3\nload 0\nload 1\nsend 0\njoin 0\n"
  pub unreached : text_of (Ok (NoRoute 3)) [] ≡ codes "no route trials 3\n"
  pub rejected : text_of (Err NotReached) [] ≡ codes "refused 4\n"
  pub nine_sites : said (9 ∷ []) ≡ codes "refused 2\n"
