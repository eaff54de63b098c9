-- The query that stands in a planner that a list of calls gives is the query in force: by induction over the list.
use Prim.Native.Nat.{ℕ}
use mathlib.Core.Path.{◌≡◌, refl, ap, ◌∙◌}
use mathlib.Core.List.{List}
use mathlib.Core.Option.{Option, none, some}
use Rattle.query.specs.declared.Query.{Query}
use Rattle.query.specs.Query.{sites_of}
use Rattle.query.proofs.Choice.{pick_both}
use Rattle.sections.specs.Fields.{Read, value}
use Rattle.sections.specs.Fields as fields
use Rattle.decoder.specs.Decode.{decode}
use Rattle.decoder.specs.declared.Form.{Form}
use Rattle.decoder.specs.declared.Form.TheVariants as form
use Rattle.planner.specs.declared.Planner.{Planner}
use Rattle.planner.specs.State.{State}
use Rattle.planner.specs.Done.{Done}
use Rattle.planner.specs.Load.{load_decoded, load_by}
use Rattle.planner.specs.Link as linking
use Rattle.planner.specs.Link.{Link, link_of, sites_listed, terms_in_range, link}
use Rattle.planner.specs.Code.{state_of}
use Rattle.claim.specs.Lists.{Call, after_load, after_link, in_force, Runs, at_first, loads, loads_rows, links, solves, checks, rooms}

-- What each call's definition does to the query that stands.
decoded_query : (x : Read Query) (s : State) → (load_decoded x s).next ≡ after_load x s
decoded_query (fields.refused k) s = refl
decoded_query (value q l) s = refl

load_query : (f : Form) (file : List ℕ) (s : State) → (load_by f file s).next ≡ after_load (decode f file) s
unfolding load_by
load_query f file s = decoded_query (decode f file) s

link_query : (l : Link) (s : State) → (link l s).next ≡ after_link l s
unfolding link
link_query l none = refl
link_query l (some q) =
    let P : Done linking.Answer → Option Query → Type 0 = λ d a. d.next ≡ a in
    pick_both P (sites_listed (sites_of q) l.sender l.receiver) (pick_both P (terms_in_range l.terms) refl refl) refl

-- What a call leaves standing, by what its definition does.
left_standing : {A : Type 0} {d e : Done A} → d ≡ e → d.next ≡ e.next
left_standing e = rw e

pub stands : {calls : List Call} {p : Planner} → Runs calls p → state_of p ≡ in_force calls
unfolding in_force
stands (at_first e) = e
stands (loads {p} κs file last r w e) =
    left_standing e ∙ load_query form.Sizes file.now (state_of p) ∙ ap (after_load (decode form.Sizes file.now)) (stands w)
stands (loads_rows {p} κs file last r w e) =
    left_standing e ∙ load_query form.Rows file.now (state_of p) ∙ ap (after_load (decode form.Rows file.now)) (stands w)
stands (links {p} a b f x r d w e) = left_standing e ∙ link_query (link_of a b f x r) (state_of p) ∙ ap (after_link (link_of a b f x r)) (stands w)
stands (solves κs cells cells' output output' r w e) = stands w
stands (checks κs plan last r w e) = stands w
stands (rooms κs n s pairs last r w e) = stands w
