-- What is proved of the two tables and the written plan, for every valid query (every query that decodes is valid: `DecodeValid`).
-- The proofs are in proofs/.
use Rattle.std.specs.Prelude.{ℕ, ◌≤◌, ◌≡◌, ◌↔◌, List, length}
use Rattle.relations.specs.Trees.{Subquery}
use Rattle.query.specs.declared.Query.{Query}
use Rattle.query.specs.Cost.{none, some, AtMost}
use Rattle.query.specs.Query.{Valid, relations_of}
use Rattle.rules.specs.Machine.{Step}
use Rattle.rules.specs.Combine.{Combines}
use Rattle.rules.specs.Allowed.{most_steps, RunAt, AllowedAt}
use Rattle.tables.specs.Tables.{delivered_by, delivered, joined, cheapest}
use Rattle.tables.specs.Written.{delivered_steps, written_delivered, written_joined, written_steps, written}

-- The tables' own equations, without a limit on relations: Delivered by Joined of the same subquery. (Joined's is its definition.)
abbrev pub DeliveredIs : Type 0
DeliveredIs =
    (combine : ℕ → ℕ → ℕ) (q : Query) → Valid q → (S t : ℕ) → Subquery q.joins (relations_of q) S →
    delivered combine q S t ≡ delivered_by (joined combine q S) q S t

-- The same for the written plan, wherever there is one.
abbrev pub WrittenIs : Type 0
WrittenIs =
    (combine : ℕ → ℕ → ℕ) (q : Query) → Valid q → (S t c : ℕ) → Subquery q.joins (relations_of q) S → delivered combine q S t ≡ some c →
    written_delivered combine q S t ≡ delivered_steps combine (written_joined combine q S) q S t

-- Where Delivered(all, query site) is a number, the written plan has a step and at most `most_steps`, is allowed, and costs exactly that number.
pub record WrittenAt (combine : ℕ → ℕ → ℕ) (q : Query) (c : ℕ) : Type 0 where
  pub some_step : 1 ≤ length (written_steps combine q)
  pub few_steps : length (written_steps combine q) ≤ most_steps
  pub allowed : AllowedAt combine q (written combine q) c

abbrev pub WrittenLaw : Type 0
WrittenLaw = (combine : ℕ → ℕ → ℕ) → Combines combine → (q : Query) → Valid q → (c : ℕ) → cheapest combine q ≡ some c → WrittenAt combine q c

-- Steps that keep the rules cost at least Delivered(all, query site), which then is a number, of whatever number they are: the limit on steps hides no
-- cheaper plan, and where there is none within it there is none at all.
abbrev pub AnyStepsLaw : Type 0
AnyStepsLaw = (combine : ℕ → ℕ → ℕ) → Combines combine → (q : Query) → Valid q → (steps : List Step) (c : ℕ) → RunAt combine q steps c → AtMost (cheapest combine q) c

-- So does every allowed plan.
abbrev pub CheapestLaw : Type 0
CheapestLaw = (combine : ℕ → ℕ → ℕ) → Combines combine → (q : Query) → Valid q → (plan : List ℕ) (c : ℕ) → AllowedAt combine q plan c → AtMost (cheapest combine q) c

-- Delivered(all, query site) is none exactly when no list of bytes is an allowed plan.
abbrev pub NoRouteLaw : Type 0
NoRouteLaw =
    (combine : ℕ → ℕ → ℕ) → Combines combine → (q : Query) → Valid q → (cheapest combine q ≡ none) ↔ ((plan : List ℕ) (c : ℕ) → AllowedAt combine q plan c → ⊥)

-- No route means that none exists: where it is none, no steps keep the rules, of whatever number they are.
abbrev pub NoneAtAll : Type 0
NoneAtAll =
    (combine : ℕ → ℕ → ℕ) → Combines combine → (q : Query) → Valid q → cheapest combine q ≡ none → (steps : List Step) (c : ℕ) → RunAt combine q steps c → ⊥

-- What no plan costs more than: the most steps over nine relations are 9 loads, 8 joins and 119 sends, each at its dearest.
abbrev pub most_cost : ℕ
most_cost = 38_875_127_000_000

-- No plan's figure is above it, however figures are combined.
abbrev pub PlanMostLaw : Type 0
PlanMostLaw = (combine : ℕ → ℕ → ℕ) → Combines combine → (q : Query) → Valid q → (plan : List ℕ) (c : ℕ) → AllowedAt combine q plan c → c ≤ most_cost

-- Nor is any figure of the tables above it, of whatever subquery.
abbrev pub MostLaw : Type 0
MostLaw =
    (combine : ℕ → ℕ → ℕ) → Combines combine → (q : Query) → Valid q → (S t c : ℕ) → Subquery q.joins (relations_of q) S →
    delivered combine q S t ≡ some c → c ≤ most_cost
