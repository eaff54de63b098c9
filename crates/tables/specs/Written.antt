-- The written plan, from Delivered(all, query site) down. Ties: lowest site k, then lowest join e.
use Rattle.std.specs.Prelude.{ℕ, zero, suc, List, [], ◌∷◌, ◌++◌, length, eqb}
use Rattle.std.specs.Int.Count.{ones}
use Rattle.relations.specs.Sets.{all}
use Rattle.query.specs.declared.Query.{Query}
use Rattle.query.specs.Choice.{pick}
use Rattle.query.specs.Query.{relations_of, sites_of, home}
use Rattle.routes.specs.Least.{lowest_at}
use Rattle.routes.specs.Routes.{route}
use Rattle.tables.specs.Tables.{first_part, other_part, only, by_join, by_site, delivered, joined}
use Rattle.rules.specs.Machine.{Step}

abbrev pub load_step : ℕ → Step
load_step r = record { kind = 1; arg = r }

abbrev pub send_step : ℕ → Step
send_step t = record { kind = 2; arg = t }

abbrev pub join_step : ℕ → Step
join_step e = record { kind = 3; arg = e }

-- A send to each of some sites in turn; and those of the route from k to t, none where it stays.
abbrev pub send_steps : List ℕ → List Step
send_steps [] = []
send_steps (m ∷ ms) = send_step m ∷ send_steps ms

abbrev pub sends_due : Query → ℕ → ℕ → ℕ → List Step
sends_due q S k t = send_steps (route q S k t)

-- The site where S is joined for Delivered(S, t), and the join that is taken last for Joined(S, k).
unfoldable pub best_site : (ℕ → ℕ → ℕ) → Query → ℕ → ℕ → ℕ
best_site combine q S t = lowest_at (by_site (joined combine q S) q S t) (sites_of q)

unfoldable pub best_join : (ℕ → ℕ → ℕ) → Query → ℕ → ℕ → ℕ
best_join combine q S k = lowest_at (by_join combine (delivered combine q) q S k) q.joins.count

-- The steps for Joined(S, k) by those (D) for Delivered of fewer relations: the part with e's first relation, the other part and the join.
unfoldable pub joined_steps : (ℕ → ℕ → ℕ) → (ℕ → ℕ → List Step) → Query → ℕ → ℕ → List Step
joined_steps combine D q S k =
    let e = best_join combine q S k in
    D (first_part q S e) k ++ (D (other_part q S e) k ++ (join_step e ∷ []))

-- The steps for Delivered(S, t) by those (J) for Joined of S: the load for one relation, else the join's steps; then the sends that are due.
unfoldable pub delivered_steps : (ℕ → ℕ → ℕ) → (ℕ → List Step) → Query → ℕ → ℕ → List Step
delivered_steps combine J q S t =
    pick (eqb (ones S) 1) (load_step (only q S) ∷ sends_due q S (home q (only q S)) t)
    (let k = best_site combine q S t in
    J k ++ sends_due q S k t)

-- The written steps of subqueries of up to f relations.
unfoldable pub steps_up_to : (ℕ → ℕ → ℕ) → Query → ℕ → ℕ → ℕ → List Step
steps_up_to combine q zero S t = []
steps_up_to combine q (suc f) S t = delivered_steps combine (joined_steps combine (steps_up_to combine q f) q S) q S t

-- The steps written for Delivered(S, t) and for Joined(S, k).
unfoldable pub written_delivered : (ℕ → ℕ → ℕ) → Query → ℕ → ℕ → List Step
written_delivered combine q S t = steps_up_to combine q (relations_of q) S t

unfoldable pub written_joined : (ℕ → ℕ → ℕ) → Query → ℕ → ℕ → List Step
written_joined combine q S k = joined_steps combine (written_delivered combine q) q S k

abbrev pub written_steps : (ℕ → ℕ → ℕ) → Query → List Step
written_steps combine q = written_delivered combine q (all (relations_of q)) q.target

-- A plan's bytes: its count, then kind and argument of each step.
abbrev pub step_bytes : List Step → List ℕ
step_bytes [] = []
step_bytes (x ∷ xs) = x.kind ∷ (x.arg ∷ step_bytes xs)

abbrev pub plan_bytes : List Step → List ℕ
plan_bytes xs = length xs ∷ step_bytes xs

-- The written plan.
abbrev pub written : (ℕ → ℕ → ℕ) → Query → List ℕ
written combine q = plan_bytes (written_steps combine q)
