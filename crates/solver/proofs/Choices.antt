-- The writer's choices: each turn of their loops weighs one site or one join more, a choice among the figures of a row is one among what the row was
-- worked out from, and a query whose cells are filled gives all that the choices ask.
use Prim.Native.Nat.{ℕ, zero, suc, ◌+◌, ◌^◌, ◌≤◌, ◌<◌}
use native.Mathlib.Nat.{le_refl, le_antisymm, pow-suc}
use native.Mathlib.Numerals.{add-one}
use native.Mathlib.Omega.{arith}
use mathlib.Core.Path.{◌≡◌, refl, sym, ap, subst, ◌∙◌}
use mathlib.Core.Bool.{Bool, true, false}
use mathlib.Core.List.{List}
use lib.Bits.{bit_and, and_le_l}
use lib.Count.{ones}
use lib.Dec.{eqb}
use lib.ListN.{get_or}
use lib.Pow.{pow_mono}
use mir.Syntax.{w64}
use mir.Val.{Fits}
use borrow.Author.Tests.{eq-eqb, ne_eqb}
use Rattle.relations.specs.declared.splitting.Parts.{Parts}
use Rattle.relations.specs.Code.{most_sets}
use Rattle.relations.specs.Sets.{bit}
use Rattle.relations.specs.Splits.{parts_by}
use Rattle.relations.proofs.Connected.{subquery_range}
use Rattle.relations.proofs.Loops.{below_sets}
use Rattle.query.specs.declared.Query.{Query}
use Rattle.query.specs.Choice.{pick}
use Rattle.query.specs.Cost.{some}
use Rattle.query.specs.Query.{relations_of, sites_of}
use Rattle.rules.specs.Combine.{Combines}
use Rattle.tables.specs.Tables.{delivered}
use Rattle.board.specs.declared.figures.Choice.{Choice}
use Rattle.board.specs.Figures.{none_mark, mark, least_of, ChoiceOf, better_of}
use Rattle.board.specs.Board.{ends_at, side_at, spared_row, joins_at, sites_at}
use Rattle.filler.specs.Trials.{Lent, size_in, trial_of, Triable, join_trial, Joinable, joined_in, Startable, start_in}
use Rattle.sender.specs.Rows.{AtSites}
use Rattle.sender.specs.Delivering.{Carriable, DeliveredFrom}
use Rattle.filler.specs.Filling.{Filled}
use Rattle.router.specs.Routing.{site_trial, site_in}
use Rattle.solver.specs.Writing.{joins_within, site_by, Known}
use Rattle.solver.proofs.Routed.{sites_kept}
use Rattle.board.proofs.LeastFigures.{choice_more, choice_same, place_same}
use Rattle.filler.proofs.Places.{reach_least}
use Rattle.tables.proofs.Most.{delivered_most}
use Rattle.filler.proofs.CellsStored.{delivered_same, start_joined}
use Rattle.filler.proofs.Started.{start_cost, delivered_started}
use Rattle.filler.proofs.Columns as columns
use Rattle.solver.proofs.Chosen.{within_is}

-- The joins in a set as bits, one more each turn: below 2^m after m of them.
pick_le : (inside : Bool) (n : ℕ) → pick inside n 0 ≤ n
pick_le true n = le_refl _
pick_le false n = omega arith

within_below : (b : List ℕ) (S m : ℕ) → joins_within b S m < 2 ^ m
unfolding joins_within
within_below b S zero = omega arith
within_below b S (suc m) = omega (arith, within_below b S m, pick_le (eqb (bit_and S (ends_at b m)) (ends_at b m)) (2 ^ m), pow-suc 2 m)

module _ (b : List ℕ) (S m found : ℕ) (is : found ≡ joins_within b S m) where
  within_few : m ≤ 8 → found < 256
  within_few h = omega (arith, within_below b S m, pow_mono h)

  pub within_fits : (s n r : ℕ) → m < s → s ≡ n → n ≤ 8 → r < 256 → Fits w64 (found + r)
  within_fits s n r h end few low = let most : m ≤ 8 = omega arith in record { fits = omega (arith, within_few most) }

  pub within_more : (ends r : ℕ) (d : Bool) → ends ≡ ends_at b m → d ≡ eqb (bit_and S ends) ends → r ≡ pick d (2 ^ m) 0 → found + r ≡ joins_within b S (m + 1)
  unfolding joins_within
  within_more ends r d ends-are d-is r-is = rw (add-one m, is, r-is, d-is, ends-are)

  pub within_done : (s n : ℕ) → m ≤ s → s ≤ m → s ≡ n → n ≤ 8 → (found ≡ joins_within b S n) × (found < 256)
  within_done s n le ge end few = (is ∙ ap (joins_within b S) (le_antisymm le ge ∙ end), within_few (omega arith))

pub within_none : (b : List ℕ) (S : ℕ) → 0 ≡ joins_within b S 0
unfolding joins_within
within_none b S = refl

-- The joins in S, as the writer works them out.
abbrev within : Lent → ℕ → ℕ
within l S = joins_within l.board S (joins_at l.board)

module _ (combine : ℕ → ℕ → ℕ) (l : Lent) (S : ℕ) where
  -- A choice among what a row holds is one among the figures that the row was worked out from.
  pub site_by_lem : (row : List ℕ) (joins x t r : ℕ) → joins ≡ within l S → AtSites (sites_at l.board) row (joined_in combine l joins S) → x ≡ size_in l S →
      r ≡ site_in (λ (k : ℕ). get_or row k 0) l.board x t → r ≡ site_by combine l S t
  unfolding site_trial
  site_by_lem row joins x t r joins_are lanes x_is is =
      is ∙ place_same _ _ (sites_at l.board) (λ k m. rw (lanes.each k m, joins_are, x_is))

  -- The joins, one after the other: one that is not in the set changes nothing.
  module _ (joins k e d : ℕ) (kept : Choice) (c : ChoiceOf (join_trial combine l joins S k) e kept) (is : d ≡ bit joins e) where
    pub join_better : (p : Parts) (side i r : ℕ) (made : Choice) → d ≡ 1 → side ≡ side_at l.board e → p ≡ parts_by S side →
        i ≡ spared_row p.first p.second e → r ≡ trial_of combine l p.first p.second i k → made ≡ better_of r e kept → ChoiceOf (join_trial combine l joins S k) (e + 1) made
    unfolding join_trial
    join_better p side i r made one side_is parts_are row_is r-is made-is =
        choice_more _ e r kept made c (r-is ∙ rw (row_is, parts_are, side_is, eq-eqb (bit joins e) 1 (sym is ∙ one))) made-is

    pub join_worse : (d ≡ 1 → ⊥) → ChoiceOf (join_trial combine l joins S k) (e + 1) kept
    unfolding join_trial
    join_worse none = choice_same _ e kept c (rw (ne_eqb (bit joins e) 1 (λ h. none (is ∙ h))))

-- What the choices ask of a query whose cells are filled.
module _ (combine : ℕ → ℕ → ℕ) (C : Combines combine) (q : Query) (l : Lent) (S : ℕ) (k : Known combine q l S) where
  low : S < 2 ^ relations_of q
  low = (subquery_range q.joins (relations_of q) S k.subquery).1

  pub known_low : S < most_sets
  known_low = below_sets S (relations_of q) k.laid.valid.relations_most low

  pub parts_low : (side : ℕ) (p : Parts) → p ≡ parts_by S side → (p.first < most_sets) × (p.second < most_sets)
  parts_low side p is = rw is (omega (arith, known_low, and_le_l S side), omega (arith, known_low))

  pub filled_here : Filled combine q l.places l.work S
  filled_here =
      record {
        room = k.filled.room;
        first = λ T h s. k.filled.first T (omega (arith, low)) s;
        each = λ T t h s m. k.filled.each T t (omega (arith, low)) s m;
        most = λ T t h s m. k.filled.most T t (omega (arith, low)) s m;
      }

  pub carriable : (x : ℕ) → x ≡ size_in l S → Carriable l.board x
  carriable x is = rw is (columns.carriable combine C q l k.laid S k.subquery)

  pub startable : (joins : ℕ) → joins ≡ within l S → Startable l joins S
  startable joins is = rw (is, within_is combine C q l k.laid S k.subquery) (columns.startable combine C q l k.laid S k.subquery filled_here)

  pub joinable : (joins : ℕ) → joins ≡ within l S → Joinable l joins S
  joinable joins is = (startable joins is).joinable

  -- The least figure from the row that S starts from is Delivered.
  pub figure_is : (row : List ℕ) (joins x t : ℕ) (c : Choice) → joins ≡ within l S → AtSites (sites_at l.board) row (start_in combine l joins S) → x ≡ size_in l S → t < sites_of q →
      ChoiceOf (site_trial (λ (i : ℕ). get_or row i 0) l.board x t) (sites_at l.board) c → c.figure ≡ mark (delivered combine q S t)
  figure_is row joins x t c joins_are lanes x_is site chosen =
      chosen.figure_is
      ∙ rw (x_is, k.laid.board.sites)
      (sites_kept combine C q l k.laid S k.subquery (λ (i : ℕ). get_or row i 0) start t).figure_is
      ∙ ap mark (sym (delivered_started combine q k.laid.valid S t k.subquery))
    where
      start : (i : ℕ) → i < sites_of q → get_or row i 0 ≡ mark (start_cost combine q S i)
      start i h =
          lanes.each i (omega (arith, k.laid.board.sites))
          ∙ rw (joins_are, within_is combine C q l k.laid S k.subquery) (columns.start_is combine C q l k.laid S k.subquery filled_here i h)

  -- So it is the least figure from the row of its joins, where it has two relations or more, and it is the cell from the row that S starts from.
  pub site_figure : (row : List ℕ) (joins x t c : ℕ) → joins ≡ within l S → AtSites (sites_at l.board) row (joined_in combine l joins S) → x ≡ size_in l S → t < sites_of q →
      (ones S ≡ 1 → ⊥) → delivered combine q S t ≡ some c → (c ≡ least_of (site_trial (λ (i : ℕ). get_or row i 0) l.board x t) (sites_at l.board)) × (c < none_mark)
  site_figure row joins x t c joins_are lanes x_is site more e = (
    sym
        (figure_is row joins x t (record { figure = _; at = _ }) joins_are
        (start_joined combine l joins S row (sites_at l.board) (λ none. more ((startable joins joins_are).alone none)) lanes) x_is site (record { figure_is = refl; at_is = refl })
        ∙ ap mark e),
    omega (arith, delivered_most combine C q k.laid.valid S t c k.subquery e),
  )

  pub cell_figure : (row : List ℕ) (joins x t : ℕ) (new : List ℕ) → joins ≡ within l S → AtSites (sites_at l.board) row (start_in combine l joins S) → x ≡ size_in l S → t < sites_of q →
      DeliveredFrom l.board x (λ (i : ℕ). get_or row i 0) new → get_or new t 0 ≡ mark (delivered combine q S t)
  cell_figure row joins x t new joins_are lanes x_is site from =
      columns.cells_are combine C q l k.laid S k.subquery filled_here new
      (subst (λ (j : ℕ). DeliveredFrom l.board (size_in l S) (start_in combine l j S) new) (joins_are ∙ within_is combine C q l k.laid S k.subquery)
      (delivered_same l.board x (size_in l S) (λ (i : ℕ). get_or row i 0) (start_in combine l joins S) new lanes.each x_is from)) t site

  pub triable : (joins e d side i row : ℕ) (p : Parts) → joins ≡ within l S → e < 8 → i < sites_of q → d ≡ bit joins e → d ≡ 1 → side ≡ side_at l.board e →
      p ≡ parts_by S side → row ≡ spared_row p.first p.second e → Triable l p.first p.second row i
  triable joins e d side i row p is h listed d-is one side_is parts_are row_is =
      rw (row_is, parts_are, side_is)
      ((joinable joins is).each e i h (omega (arith, k.laid.board.sites, reach_least (sites_at l.board) (joinable joins is).few_sites)) (sym d-is ∙ one))
