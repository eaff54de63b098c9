-- How the code's values are read: two bytes as a step, its state as a machine, a step's outcome and a plan's verdict. And what a run keeps, so
-- that every sum fits.
use Rattle.std.specs.Prelude.{ℕ, ◌+◌, ◌*◌, ◌^◌, ◌≤◌, ◌<◌, ◌≡◌, List, [], ◌∷◌, length, get_or, eqb, reverse, take, Result, Ok, Err}
use Rattle.std.specs.Int.Count.{ones}
use Rattle.query.specs.declared.Charge.{Charge}
use Rattle.query.specs.declared.refusal.Refusal.{Refusal}
use Rattle.query.specs.declared.refusal.Refusal.TheVariants.{UnknownStep}
use Rattle.query.specs.Choice.{pick}
use Rattle.query.specs.Prices.{dearest_line, dearest_join}
use Rattle.query.specs.Refusals.{number_of}
use Rattle.rules.specs.declared.Step as code
use Rattle.rules.specs.declared.Step.TheVariants.{Load, Send, Join}
use Rattle.rules.specs.declared.Held.{Held}
use Rattle.rules.specs.declared.Stack.{Stack}
use Rattle.rules.specs.declared.State.{State}
use Rattle.rules.specs.declared.Rejection.{Rejection}
use Rattle.rules.specs.Machine.{Step, Machine, Outcome, went, refused}
use Rattle.rules.specs.Allowed.{Verdict, accepted, rejected}

-- Two bytes as a step of the rules, and as one of the code, where their kind is known.
abbrev pub step_of_bytes : List ℕ → Step
step_of_bytes bytes = record { kind = get_or bytes 0 0; arg = get_or bytes 1 0 }

abbrev pub step_read : (kind arg : ℕ) → Result code.Step Refusal
step_read kind arg =
    pick (eqb kind 1) (Ok (Load arg)) (pick (eqb kind 2) (Ok (Send arg)) (pick (eqb kind 3) (Ok (Join arg)) (Err UnknownStep)))

-- The entries in use, and what is held, the top first.
abbrev pub entries : Stack → List Held
entries s = take s.depth s.held

abbrev pub stack_of : Stack → List Held
stack_of s = reverse (entries s)

abbrev pub machine_of : State → Machine
machine_of s = record { loaded = s.loaded; stack = stack_of s.stack }

-- What a step of the code gives, with the state that it leaves.
abbrev pub outcome_of : {A : Type 0} → Result A Refusal → State → Outcome
outcome_of (Ok done) s = went (machine_of s)
outcome_of (Err k) s = refused (number_of k)

-- The verdict of a plan, and that of a plan's end after i steps.
abbrev pub verdict_of : Result Charge Rejection → Verdict
verdict_of (Ok cost) = accepted cost.0
verdict_of (Err r) = rejected (number_of r.refusal) r.place

abbrev pub verdict_at : ℕ → Result Charge Refusal → Verdict
verdict_at i (Ok cost) = accepted cost.0
verdict_at i (Err k) = rejected (number_of k) i

-- The sums over the held results of their sets' numbers and of their figures.
abbrev pub sets : List Held → ℕ
sets [] = 0
sets (h ∷ hs) = h.set + sets hs

abbrev pub figures : List Held → ℕ
figures [] = 0
figures (h ∷ hs) = h.figure.0 + figures hs

-- Each of them stands at one of at most eight sites.
abbrev pub Sited : List Held → Type 0
Sited [] = Unit {0}
Sited (h ∷ hs) = (h.site < 8) × Sited hs

-- What a run over n relations keeps through its first i steps, which are loads, joins and sends. Each load brings a relation and a result, and
-- each join takes a result away: so nine entries are enough. A load is free, a join charges at most the dearest join and a send the dearest
-- line, and no combination is more than the sum: so no sum of figures overflows, however the sends are spread.
pub record Room (n i : ℕ) (m : Machine) : Type 0 where
  pub in_all : m.loaded < 2 ^ n
  pub parts : sets m.stack ≤ m.loaded
  pub joins : ℕ
  pub sends : ℕ
  pub held : length m.stack + joins ≡ ones m.loaded
  pub steps : ones m.loaded + joins + sends ≤ i
  pub small : figures m.stack ≤ dearest_join * joins + dearest_line * sends
  pub sited : Sited m.stack
