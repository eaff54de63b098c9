-- What room tells beforehand is what load and solve answer later (rule 7.9): of every file that is decoded, with the joins that stand in it.
use Rattle.std.specs.Prelude.{ℕ, ◌+◌, ◌*◌, ◌<◌, ◌≡◌, ◌↔◌, true, List, [], ◌∷◌, length, take, drop}
use Rattle.std.proofs.Math.Option.{Option, none, some}
use Rattle.relations.specs.Trees.{subqueries}
use Rattle.query.specs.declared.Query.{Query}
use Rattle.query.specs.Query.{relations_of, sites_of}
use Rattle.sections.specs.Fields.{value}
use Rattle.decoder.specs.declared.Form.{Form}
use Rattle.decoder.specs.Decode.{decode}
use Rattle.files.specs.Length.{section_length}
use Rattle.tables.specs.Tables.{trials}
use Rattle.room.specs.Room.{figures, room}
use Rattle.planner.specs.State.{State}
use Rattle.planner.specs.Load.{loaded, load_by}
use Rattle.planner.specs.Link.{Link, link}
use Rattle.planner.specs.Solve.{Answer, found, no_route, refused, solve, solve_admitted, needed}

-- The joins as they stand in the file of q, behind their count.
abbrev pub pairs_in : Query → (file : List ℕ) → List ℕ
pairs_in q file = take (2 * q.joins.count) (drop (section_length 9 (sites_of q) + section_length 2 (relations_of q) + 1) file)

-- The state after some links, the latest first, admitted or refused.
abbrev pub after_links : List Link → State → State
after_links [] s = s
after_links (l ∷ links) s = (link l (after_links links s)).next

-- The trials that solve answers, unless it refuses.
abbrev pub trials_in : Answer → Option ℕ
trials_in (found c l t) = some t
trials_in (no_route t) = some t
trials_in (refused k) = none

-- Room tells k subqueries, k cells for each site, and t trials. Load answers k. Whichever lines are linked after it, a solve needs just the cells that were
-- told, so that it refuses 21 exactly where it has fewer; and t is what every admitted solve answers.
pub record Foretold (f : Form) (file : List ℕ) (q : Query) (k t : ℕ) : Type 0 where
  pub told : room (relations_of q) (sites_of q) (pairs_in q file) ≡ figures k (k * sites_of q) t
  pub load_answers : (s : State) → (load_by f file s).answer ≡ loaded (relations_of q) k
  pub solve_needs : (s : State) (links : List Link) → needed (after_links links (load_by f file s).next) ≡ k * sites_of q
  pub few_cells :
      (s : State) (links : List Link) (cells : ℕ) (out : List ℕ) →
      ((solve cells out (after_links links (load_by f file s).next)).answer ≡ refused 21) ↔ (cells < k * sites_of q)
  pub solve_answers :
      (links : List Link) (cells : ℕ) (out : List ℕ) → solve_admitted (after_links links (some q)) cells (length out) ≡ true →
      trials_in (solve cells out (after_links links (some q))).answer ≡ some t

abbrev pub ForetoldLaw : Type 0
ForetoldLaw =
    (f : Form) (file : List ℕ) (q : Query) (l : List ℕ) → decode f file ≡ value q l →
    Foretold f file q (subqueries q.joins (relations_of q)) (trials q)
