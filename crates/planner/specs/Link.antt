-- Link: replaces the line from its sender to its receiver. Refusals 20, 6, 3.
use Rattle.std.specs.Prelude.{ℕ, Bool, not, ◌&&◌, eqb, ltb, leb}
use Rattle.std.proofs.Math.Option.{none, some}
use Rattle.query.specs.declared.Query.{Query}
use Rattle.query.specs.Choice.{pick}
use Rattle.query.specs.Query.{sites_of}
use Rattle.query.specs.declared.Terms.{Terms}
use Rattle.query.specs.Terms.{relined}
use Rattle.planner.specs.State.{State}
use Rattle.planner.specs.Done.{Done, done_with}

-- Link's arguments: sender, receiver, and the line's open flag, fixed amount and rate.
pub record Link : Type 0 where
  pub sender : ℕ
  pub receiver : ℕ
  pub terms : Terms

abbrev pub link_of : (sender receiver flag fixed rate : ℕ) → Link
link_of a b o f r = record { sender = a; receiver = b; terms = record { flag = o; fixed = f; rate = r } }

-- What link answers.
pub data Answer : Type 0 where
  linked : Answer
  refused : (number : ℕ) → Answer

-- Refusal 6 where it names an unlisted site of the s sites, or one site twice; refusal 3 where a field is out of range.
unfoldable pub sites_listed : (s sender receiver : ℕ) → Bool
sites_listed s a b = (ltb a s && ltb b s) && not (eqb a b)

unfoldable pub terms_in_range : Terms → Bool
terms_in_range t = (leb t.flag 1 && leb t.fixed 1_000_000) && leb t.rate 1_000

-- The query with the line from the sender to the receiver replaced.
abbrev pub relined_by : Query → Link → Query
relined_by q l = relined q l.sender l.receiver l.terms

-- A refusal changes no state.
unfoldable pub link : Link → State → Done Answer
link l none = done_with (refused 20) none
link l (some q) =
    pick (sites_listed (sites_of q) l.sender l.receiver)
    (pick (terms_in_range l.terms) (done_with linked (some (relined_by q l))) (done_with (refused 3) (some q)))
    (done_with (refused 6) (some q))
