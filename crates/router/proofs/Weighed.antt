-- The turns of a choice are over: it is one among all; and one among the figures of a table of routes is one among the routes.
use Prim.Native.Nat.{ℕ, ◌+◌, ◌*◌, ◌<◌}
use native.Mathlib.Numerals.{add-one}
use mathlib.Core.Path.{◌≡◌, refl, ap, ◌∙◌}
use mathlib.Core.List.{List}
use lib.ListN.{get_or}
use Rattle.board.specs.declared.figures.Choice.{Choice}
use Rattle.board.specs.Figures.{none_mark, lesser, least_of, ChoiceOf}
use Rattle.board.specs.Board.{sites_at}
use Rattle.board.proofs.LeastFigures.{least_same, place_same}
use Rattle.router.specs.Routing.{by_sends_in, carriage_in, RoutesTo, site_trial}

-- The least figure, before any and with one more.
pub least_none : (g : ℕ → ℕ) → none_mark ≡ least_of g 0
unfolding least_of
least_none g = refl

pub least_more : (g : ℕ → ℕ) (m kept made : ℕ) → kept ≡ least_of g m → made ≡ lesser (g m) kept → made ≡ least_of g (m + 1)
unfolding least_of
least_more g m kept made is made-is = made-is ∙ rw (add-one m, is)

-- The sites, one after the other, by the table of the routes to t.
pub sites_weighed : (row : ℕ → ℕ) (b : List ℕ) (size t s : ℕ) (table : List ℕ) (c : Choice) → RoutesTo b size t (sites_at b) table → s ≡ sites_at b →
    ChoiceOf (λ (j : ℕ). row j + least_of (λ (i : ℕ). get_or table (8 * i + j) 0) (sites_at b)) s c → ChoiceOf (site_trial row b size t) (sites_at b) c
unfolding site_trial carriage_in
sites_weighed row b size t s table c r is chosen =
    let all = rw is at chosen in
    let same : (j : ℕ) → j < sites_at b → row j + least_of (λ (i : ℕ). get_or table (8 * i + j) 0) (sites_at b) ≡ row j + least_of (λ (i : ℕ). by_sends_in b size t i j) (sites_at b) =
    λ j h. ap (λ (x : ℕ). row j + x) (least_same _ _ (sites_at b) (λ i l. r.each i j l h)) in
    record { figure_is = all.figure_is ∙ least_same _ _ (sites_at b) same; at_is = all.at_is ∙ place_same _ _ (sites_at b) same }
