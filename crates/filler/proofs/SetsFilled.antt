-- Sets in ascending number: each set leaves the cells of every subquery below the next set filled, the later cells as they were, and the joins counted.
use Prim.Native.Nat.{ℕ, ◌+◌, ◌-◌, ◌≤◌, ◌<◌}
use native.Mathlib.Nat.{le_of_suc-le-suc, eq-or-lt_of_le}
use native.Mathlib.Numerals.{add-one}
use native.Mathlib.Decide.{dec_lt}
use native.Mathlib.Omega.{arith}
use mathlib.Core.Path.{◌≡◌, refl, sym, ap, subst, ◌∙◌}
use mathlib.Core.Bool.{true, false}
use mathlib.Core.Logic.{◌⊎◌, inl, inr}
use mathlib.Core.List.{List}
use lib.Count.{ones}
use lib.ListN.{length, get_or, set, drop, length-drop, length-set}
use lib.Seq.{ext_get_or, get_or-drop, get_or-set_same, get_or-set_other}
use Rattle.relations.specs.Code.{most_sets}
use Rattle.relations.specs.Sets.{all}
use Rattle.relations.specs.Trees.{is_subquery, Subquery}
use Rattle.relations.proofs.Connected.{subquery_range}
use Rattle.relations.proofs.Leads.{never_both}
use Rattle.relations.proofs.Subqueries.{subqueries_law}
use Rattle.query.specs.declared.Query.{Query}
use Rattle.query.specs.Query.{Valid, relations_of, sites_of}
use Rattle.tables.specs.Tables.{delivered, joins_below}
use Rattle.tables.specs.Work.{cells_needed, place}
use Rattle.tables.proofs.Trials.{joins_none, joins_next}
use Rattle.tables.proofs.Work.{place_after, place_first, place_next, place_skip, place_before}
use Rattle.board.specs.Figures.{none_mark, mark}
use Rattle.filler.specs.Cells.{reach, Stored}
use Rattle.filler.specs.Filling.{Filled}
use Rattle.filler.proofs.Places.{reach_least, reach_within}

-- What filling has reached when set S is next, and its cells would stand from `next` on.
pub record Going (combine : ℕ → ℕ → ℕ) (q : Query) (old work places : List ℕ) (S next tried : ℕ) : Type 0 where
  pub cells : Filled combine q places work S
  pub long : length work ≡ length old
  pub later : drop (cells_needed q) work ≡ drop (cells_needed q) old
  pub noted : length places ≡ most_sets
  pub next_is : next ≡ place q S 0
  pub joins : tried ≡ joins_below q.joins (relations_of q) S

-- Lists of one length that agree from n on.
later_same : (n : ℕ) (old new : List ℕ) → length new ≡ length old → ((i : ℕ) → n ≤ i → get_or new i 0 ≡ get_or old i 0) → drop n new ≡ drop n old
later_same n old new long same =
    ext_get_or 0 (drop n new) (drop n old) (length-drop n new ∙ ap (λ (m : ℕ). m - n) long ∙ sym (length-drop n old))
    (λ i h. get_or-drop n new i 0 ∙ same (n + i) (omega arith) ∙ sym (get_or-drop n old i 0))

-- Of the sets below S + 1 the last is S.
below_next : (P : ℕ → Type 0) (S : ℕ) → P S → ((T : ℕ) → T < S → P T) → (T : ℕ) → T < S + 1 → P T
below_next P S here below T h = go (eq-or-lt_of_le (le_of_suc-le-suc (rw (add-one S) at h)))
  where
    go : (T ≡ S) ⊎ (T < S) → P T
    go (inl e) = subst P (sym e) here
    go (inr l) = below T l

module _ (combine : ℕ → ℕ → ℕ) (q : Query) (v : Valid q) where
  -- Nothing is below set 1.
  pub going_start : (work places : List ℕ) → cells_needed q ≤ length work → length places ≡ most_sets → Going combine q work work places 1 0 0
  going_start work places room noted =
      record {
        cells = record {
          room = room;
          first = λ S h s. absurd (omega (arith, (subquery_range q.joins (relations_of q) S s).0));
          each = λ S t h s m. absurd (omega (arith, (subquery_range q.joins (relations_of q) S s).0));
          most = λ S t h s m. absurd (omega (arith, (subquery_range q.joins (relations_of q) S s).0));
        };
        long = refl;
        later = refl;
        noted = noted;
        next_is = sym (place_first q);
        joins = joins_none q.joins (relations_of q);
      }

  module _ (old work places : List ℕ) (S next tried : ℕ) (g : Going combine q old work places S next tried) where
    -- A set that is no subquery.
    pub going_skip : is_subquery q.joins (relations_of q) S ≡ false → Going combine q old work places (S + 1) next tried
    going_skip out =
        record {
          cells = record {
            room = g.cells.room;
            first = λ T h. below_next (λ X. Subquery q.joins (relations_of q) X → get_or places X 0 ≡ place q X 0) S (λ s. absurd (never_both _ s out)) g.cells.first T h;
            each = λ T t h. below_next (λ X. Subquery q.joins (relations_of q) X → t < sites_of q → get_or work (place q X t) 0 ≡ mark (delivered combine q X t)) S
                (λ s m. absurd (never_both _ s out)) (λ X l. g.cells.each X t l) T h;
            most = λ T t h. below_next (λ X. Subquery q.joins (relations_of q) X → t < reach (sites_of q) → get_or work (place q X t) 0 ≤ none_mark) S
                (λ s m. absurd (never_both _ s out)) (λ X l. g.cells.most X t l) T h;
          };
          long = g.long;
          later = g.later;
          noted = g.noted;
          next_is = g.next_is ∙ sym (place_skip q S out);
          joins = omega (arith, g.joins, joins_next q.joins (relations_of q) S false out);
        }

    -- A subquery, with its cells stored and the first of them noted.
    module _ (new : List ℕ) (f : ℕ → ℕ) (s : Subquery q.joins (relations_of q) S) (stored : Stored work new next f (reach (sites_of q)))
        (is : (t : ℕ) → t < sites_of q → f t ≡ mark (delivered combine q S t)) (few : (t : ℕ) → t < reach (sites_of q) → f t ≤ none_mark) where
      here : (t : ℕ) → next + t ≡ place q S t
      here t = omega (arith, g.next_is, place_after q S t)

      -- The cells of lower subqueries are before it; only what is reached behind them may be its own.
      other : (T t : ℕ) → T < S → Subquery q.joins (relations_of q) T → t < sites_of q → get_or new (place q T t) 0 ≡ get_or work (place q T t) 0
      other T t l p m = stored.kept.below (place q T t) (omega (arith, place_before q T S p l, place_after q T t, g.next_is))

      behind : (T t : ℕ) → T < S → Subquery q.joins (relations_of q) T → t < reach (sites_of q) → get_or new (place q T t) 0 ≤ none_mark
      behind T t l p m = go (dec_lt (place q T t) next)
        where
          go : Dec (place q T t < next) → get_or new (place q T t) 0 ≤ none_mark
          go (yes low) = rw (stored.kept.below (place q T t) low) (g.cells.most T t l p m)
          go (no high) =
              let at : place q T t ≡ next + (place q T t - next) = omega arith in
              rw (at, stored.each (place q T t - next) (omega (arith, place_before q T S p l, place_after q T t, g.next_is))) (few (place q T t - next) (omega (arith, place_before q T S p l, place_after q T t, g.next_is)))

      pub going_on : S < all (relations_of q) → S < length places → Going combine q old new (set places S next) (S + 1) (next + sites_of q) (tried + (ones S - 1))
      going_on low long =
          let same : drop (cells_needed q) new ≡ drop (cells_needed q) work =
          later_same (cells_needed q) work new stored.kept.long (λ i h. stored.kept.above i (omega (arith, reaches low, g.next_is))) in
          record {
            cells = record {
              room = omega (arith, stored.kept.long, g.cells.room);
              first = λ T h. below_next (λ X. Subquery q.joins (relations_of q) X → get_or (set places S next) X 0 ≡ place q X 0) S
                  (λ p. get_or-set_same places S next 0 long ∙ g.next_is) (λ X l p. get_or-set_other places S X next 0 (λ e. omega arith) ∙ g.cells.first X l p) T h;
              each = λ T t h p m. below_next (λ X. Subquery q.joins (relations_of q) X → get_or new (place q X t) 0 ≡ mark (delivered combine q X t)) S
                  (λ p. ap (λ (i : ℕ). get_or new i 0) (sym (here t)) ∙ stored.each t (omega (arith, reach_least (sites_of q) v.sites_most)) ∙ is t m)
                  (λ X l p. other X t l p m ∙ g.cells.each X t l p m) T h p;
              most = λ T t h p m. below_next (λ X. Subquery q.joins (relations_of q) X → get_or new (place q X t) 0 ≤ none_mark) S
                  (λ p. rw (← here t, stored.each t m) (few t m)) (λ X l p. behind X t l p m) T h p;
            };
            long = stored.kept.long ∙ g.long;
            later = same ∙ g.later;
            noted = length-set places S next ∙ g.noted;
            next_is = ap (λ (x : ℕ). x + sites_of q) g.next_is ∙ sym (place_next q S s);
            joins = omega (arith, g.joins, joins_next q.joins (relations_of q) S true s);
          }
        where
          reaches : S < all (relations_of q) → place q S 0 + reach (sites_of q) ≤ cells_needed q
          reaches h = reach_within q v S (all (relations_of q)) s (subqueries_law q.joins (relations_of q) v.tree).whole h
