-- A whole plan: a count byte, 1 to 136, then two bytes a step. Refusals 7 and 12, the places of refusals, and which plans are allowed.
use Rattle.std.specs.Prelude.{ℕ, suc, ◌+◌, ◌*◌, ◌≡◌, ◌&&◌, List, [], ◌∷◌, length, eqb, leb}
use Rattle.relations.specs.Sets.{all}
use Rattle.query.specs.declared.Query.{Query}
use Rattle.query.specs.Choice.{pick}
use Rattle.query.specs.Query.{relations_of}
use Rattle.query.specs.Prices.{line_price, join_price}
use Rattle.rules.specs.declared.Held.{Held}
use Rattle.rules.specs.Machine.{Step, Machine, start, Outcome, went, refused, qualifies, step}

-- How many steps a plan may have, and how many bytes it then has at most: its count, and two a step.
abbrev pub most_steps : ℕ
most_steps = 136

abbrev pub longest_plan : ℕ
longest_plan = 1 + 2 * most_steps

abbrev pub steps_of : List ℕ → List Step
steps_of [] = []
steps_of (k ∷ []) = []
steps_of (k ∷ (a ∷ bytes)) = record { kind = k; arg = a } ∷ steps_of bytes

-- A plan is accepted at a figure, or rejected with the refusal's number and place.
pub data Verdict : Type 0 where
  accepted : ℕ → Verdict
  rejected : (number place : ℕ) → Verdict

-- After step i: the rest of the plan, or the step's refusal at i.
abbrev pub after : ℕ → Outcome → (Machine → Verdict) → Verdict
after i (went m) rest = rest m
after i (refused k) rest = rejected k i

-- The end condition, after i steps: one result is held, with every relation, at the query site. Else refusal 12 at the count.
unfoldable pub finish : Query → ℕ → List Held → Verdict
finish q i [] = rejected 12 i
finish q i (h ∷ []) = pick (eqb h.set (all (relations_of q)) && eqb h.site q.target) (accepted h.figure.0) (rejected 12 i)
finish q i (h ∷ (a ∷ hs)) = rejected 12 i

-- The steps in order from step i on.
unfoldable pub run : (ℕ → ℕ → ℕ) → Query → ℕ → List Step → Machine → Verdict
run combine q i [] m = finish q i m.stack
run combine q i (x ∷ xs) m = after i (step combine q x.kind x.arg m) (run combine q (suc i) xs)

-- Steps, of whatever number, that keep all the other rules for the query, and their figure is c.
abbrev pub RunAt : (ℕ → ℕ → ℕ) → Query → List Step → ℕ → Type 0
RunAt combine q steps c = run combine q 0 steps start ≡ accepted c

-- A plan's bytes. Refusal 7, which has no place: the count is outside 1 to 136 or the length isn't 1 + 2 × count; an empty plan too.
unfoldable pub checked : (ℕ → ℕ → ℕ) → Query → List ℕ → Verdict
checked combine q [] = rejected 7 0
checked combine q (count ∷ bytes) =
    pick ((leb 1 count && leb count most_steps) && eqb (length bytes) (2 * count)) (run combine q 0 (steps_of bytes) start) (rejected 7 0)

-- The plan keeps all the rules for the query, and its figure is c.
abbrev pub AllowedAt : (ℕ → ℕ → ℕ) → Query → List ℕ → ℕ → Type 0
AllowedAt combine q plan c = checked combine q plan ≡ accepted c

-- An allowed plan (rule 4.6), and its cost.
abbrev pub Allowed : Query → List ℕ → Type 0
Allowed q plan = (c : ℕ) × AllowedAt ◌+◌ q plan c

-- The price of one step: of a send its line's price, of a join the join's price, of a load nothing.
abbrev pub send_price : Query → ℕ → List Held → ℕ
send_price q t [] = 0
send_price q t (h ∷ hs) = line_price q h.set h.site t

abbrev pub join_step_price : Query → List Held → ℕ
join_step_price q [] = 0
join_step_price q (b ∷ []) = 0
join_step_price q (b ∷ (a ∷ hs)) = join_price q b.site (qualifies q a) a.set (qualifies q b) b.set

abbrev pub step_price : Query → Step → Machine → ℕ
step_price q x m = pick (eqb x.kind 2) (send_price q x.arg m.stack) (pick (eqb x.kind 3) (join_step_price q m.stack) 0)

abbrev pub spent_after : Outcome → (Machine → ℕ) → ℕ
spent_after (went m) rest = rest m
spent_after (refused k) rest = 0

-- The sum over the sends and joins of a plan's steps: its cost by rule 4.7.
unfoldable pub spent : Query → List Step → Machine → ℕ
spent q [] m = 0
spent q (x ∷ xs) m = step_price q x m + spent_after (step ◌+◌ q x.kind x.arg m) (spent q xs)
