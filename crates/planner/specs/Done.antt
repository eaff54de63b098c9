-- What a call that may change the state leaves: its own answer, and the next state.
use Rattle.planner.specs.State.{State}

pub record Done (Answer : Type 0) : Type 0 where
  pub answer : Answer
  pub next : State

abbrev pub done_with : {Answer : Type 0} → Answer → State → Done Answer
done_with a s = record { answer = a; next = s }
