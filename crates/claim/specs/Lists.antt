-- Lists of calls: what a call brings, which planners a list can give, and the query in force, which is worked out from the list alone.
use Prim.{tt}
use Rattle.std.specs.Prelude.{ℕ, List, [], ◌∷◌, Result}
use Rattle.std.proofs.Math.Option.{Option, none, some}
use Rattle.std.specs.Borrow.{Bor, MutBor}
use contract.Lifetimes.{Lfts}
use Rattle.query.specs.declared.Charge.{Charge}
use Rattle.query.specs.declared.Query.{Query}
use Rattle.query.specs.declared.refusal.Refusal.{Refusal}
use Rattle.query.specs.Choice.{pick}
use Rattle.query.specs.Query.{sites_of}
use Rattle.sections.specs.Fields.{Read, value}
use Rattle.sections.specs.Fields as fields
use Rattle.decoder.specs.Decode.{decode}
use Rattle.decoder.specs.declared.Form.TheVariants as form
use Rattle.rules.specs.declared.Rejection.{Rejection}
use Rattle.solver.specs.declared.Solution.{Solution}
use Rattle.room.specs.declared.Figures.{Figures}
use Rattle.planner.specs.declared.Planner.{Planner}
use Rattle.planner.specs.declared.After.{After}
use Rattle.planner.specs.declared.Loaded.{Loaded}
use Rattle.planner.specs.Link.{Link, link_of, sites_listed, terms_in_range, relined_by}
use Rattle.room.proofs.room.Reads as Room
use Rattle.planner.proofs.empty.Reads as Empty
use Rattle.planner.proofs.load.Reads as Load
use Rattle.planner.proofs.load_rows.Reads as LoadRows
use Rattle.planner.proofs.link.Reads as LinkReads
use Rattle.planner.proofs.solve.Reads as Solve
use Rattle.planner.proofs.check.Reads as Check

-- A call with its own arguments, input bytes and lent areas, with anything in them.
pub data Call : Type 0 where
  load : (file : List ℕ) → Call
  load_rows : (file : List ℕ) → Call
  link : (sender receiver opened fixed rate : ℕ) → Call
  solve : (cells output : List ℕ) → Call
  check : (plan : List ℕ) → Call
  room : (n s : ℕ) (pairs : List ℕ) → Call

-- What a call does to the query in force. An admitted load of either form puts its query in force.
abbrev pub after_load : Read Query → Option Query → Option Query
after_load (fields.refused k) o = o
after_load (value q l) o = some q

-- An admitted link replaces the line from its sender to its receiver in the query in force.
abbrev pub after_link : Link → Option Query → Option Query
after_link l none = none
after_link l (some q) = pick (sites_listed (sites_of q) l.sender l.receiver) (pick (terms_in_range l.terms) (some (relined_by q l)) (some q)) (some q)

-- Solve, check, room and every refused call leave it as it is.
abbrev pub force : Call → Option Query → Option Query
force (load file) o = after_load (decode form.Sizes file) o
force (load_rows file) o = after_load (decode form.Rows file) o
force (link a b f x r) o = after_link (link_of a b f x r) o
force (solve cells output) o = o
force (check plan) o = o
force (room n s pairs) o = o

-- The query in force after a list of calls, the latest first. At first there is none.
unfoldable pub in_force : List Call → Option Query
in_force [] = none
in_force (c ∷ calls) = force c (in_force calls)

-- The planners that a list of calls, the latest first, can give: the first call gets an empty planner, each later one the planner that
-- the call before it returned or left. What a call returns is whatever its function's own contract (`Post`) allows, refused calls included.
-- Room takes no planner, so that it leaves the one that stands.
pub data Runs : List Call → Planner → Type 0 where
  at_first : {p : Planner} → Empty.Post tt tt p tt → Runs [] p
  loads :
      {calls : List Call} {p : Planner} (κs : Lfts 1) (file last : Bor (List ℕ)) (r : After Loaded) →
      Runs calls p → Load.Post κs (p, (file, tt)) r (p, (last, tt)) → Runs (load file.now ∷ calls) r.planner
  loads_rows :
      {calls : List Call} {p : Planner} (κs : Lfts 1) (file last : Bor (List ℕ)) (r : After Loaded) →
      Runs calls p → LoadRows.Post κs (p, (file, tt)) r (p, (last, tt)) → Runs (load_rows file.now ∷ calls) r.planner
  links :
      {calls : List Call} {p : Planner} (a b f x r : ℕ) (d : After (Unit {0})) →
      Runs calls p → LinkReads.Post tt (p, (a, (b, (f, (x, (r, tt)))))) d (p, (a, (b, (f, (x, (r, tt)))))) → Runs (link a b f x r ∷ calls) d.planner
  solves :
      {calls : List Call} {p : Planner} (κs : Lfts 2) (cells cells' output output' : MutBor (List ℕ)) (r : Result Solution Refusal) →
      Runs calls p → Solve.Post κs (p, (cells, (output, tt))) r (p, (cells', (output', tt))) → Runs (solve cells.now output.now ∷ calls) p
  checks :
      {calls : List Call} {p : Planner} (κs : Lfts 1) (plan last : Bor (List ℕ)) (r : Result Charge Rejection) →
      Runs calls p → Check.Post κs (p, (plan, tt)) r (p, (last, tt)) → Runs (check plan.now ∷ calls) p
  rooms :
      {calls : List Call} {p : Planner} (κs : Lfts 1) (n s : ℕ) (pairs last : Bor (List ℕ)) (r : Result Figures Refusal) →
      Runs calls p → Room.Post κs (n, (s, (pairs, tt))) r (n, (s, (last, tt))) → Runs (room n s pairs.now ∷ calls) p
