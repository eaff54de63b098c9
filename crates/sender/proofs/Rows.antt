-- Each turn of a loop over lanes of a row keeps what the loop has shown so far.
use Prim.Native.Nat.{ℕ, ◌+◌, ◌-◌, ◌≤◌, ◌<◌}
use native.Mathlib.Nat.{le_refl}
use native.Mathlib.Omega.{arith}
use native.Mathlib.Decide.{ℕ_discrete, dec_lt}
use mathlib.Core.Path.{◌≡◌, refl, ap, subst, ◌∙◌}
use mathlib.Core.List.{List}
use lib.ListN.{get_or, set, length-set, replicate, get_or-replicate}
use lib.Seq.{get_or-set_same, get_or-set_other}
use borrow.Author.Count.{below_none, below_more}
use Rattle.board.specs.Figures.{none_mark, lesser, Lanes, Marked}
use Rattle.sender.specs.Rows.{TriedAt, TriedFrom}

-- No figure above none: in a row of none, after a store, and in a row of figures none of which is.
pub none_marked : Marked (replicate 8 none_mark)
none_marked = record { long = refl; most = λ k h. rw (get_or-replicate 8 k none_mark 0 h) (le_refl _) }

pub marked_set : (row : List ℕ) (k v : ℕ) → Marked row → v ≤ none_mark → Marked (set row k v)
marked_set row k v m h = record { long = length-set row k v ∙ m.long; most = λ i low. go i low (ℕ_discrete i k) }
  where
    go : (i : ℕ) → i < 8 → Dec (i ≡ k) → get_or (set row k v) i 0 ≤ none_mark
    go i low (yes e) = rw (e, get_or-set_same row k v 0 (omega (arith, m.long))) h
    go i low (no d) = rw (get_or-set_other row k i v 0 d) (m.most i low)

pub lanes_marked : (row : List ℕ) (g : ℕ → ℕ) → Lanes row g → ((k : ℕ) → g k ≤ none_mark) → Marked row
lanes_marked row g l h = record { long = l.long; most = λ k low. rw (l.each k low) (h k) }

-- A row that is tried against new figures from a site on, one lane more each turn.
pub tried_none : (old : List ℕ) (g : ℕ → ℕ) (site : ℕ) → Marked old → TriedFrom old old g site 0
tried_none old g site m = record { kept = record { long = refl; below = λ i l. refl; above = λ i l. refl }; each = below_none _; marked = m }

pub tried_more : (old new : List ℕ) (g : ℕ → ℕ) (site i k t v : ℕ) → TriedFrom old new g site i → k ≡ site + i → k < 8 → t ≡ g k → v ≡ lesser t (get_or new k 0) →
    v ≤ none_mark → TriedFrom old (set new k v) g site (i + 1)
tried_more old new g site i k t v r at l e f m =
    record {
      kept = record {
        long = length-set new k v ∙ r.kept.long;
        below = λ j h. get_or-set_other new k j v 0 (λ q. omega arith) ∙ r.kept.below j h;
        above = λ j h. get_or-set_other new k j v 0 (λ q. omega arith) ∙ r.kept.above j (omega arith);
      };
      each =
          below_more (λ j. get_or (set new k v) (site + j) 0 ≡ lesser (g (site + j)) (get_or old (site + j) 0)) i
          (λ j h. get_or-set_other new k (site + j) v 0 (λ q. omega arith) ∙ r.each j h)
          (rw (← at) (get_or-set_same new k v 0 (omega (arith, r.marked.long)) ∙ f ∙ rw (e, r.kept.above k (omega arith))));
      marked = marked_set new k v r.marked m;
    }

-- From the first lane on.
front : (old new : List ℕ) (g : ℕ → ℕ) (m : ℕ) → TriedFrom old new g 0 m → (k : ℕ) → k < m → get_or new k 0 ≡ lesser (g k) (get_or old k 0)
front old new g m r k h = let at : 0 + k ≡ k = omega arith in subst (λ (i : ℕ). get_or new i 0 ≡ lesser (g i) (get_or old i 0)) at (r.each k h)

-- Two stretches of lanes, the one behind the other.
pub tried_both : (old mid new : List ℕ) (g : ℕ → ℕ) (a b : ℕ) → TriedFrom old mid g 0 a → TriedFrom mid new g a b → TriedFrom old new g 0 (a + b)
tried_both old mid new g a b r t =
    record {
      kept = record {
        long = t.kept.long ∙ r.kept.long;
        below = λ j h. absurd (omega arith);
        above = λ j h. t.kept.above j (omega arith) ∙ r.kept.above j (omega arith);
      };
      each = λ i h. let at : i ≡ 0 + i = omega arith in subst (λ (j : ℕ). get_or new j 0 ≡ lesser (g j) (get_or old j 0)) at (go i (omega arith) (dec_lt i a));
      marked = t.marked;
    }
  where
    go : (i : ℕ) → i < a + b → Dec (i < a) → get_or new i 0 ≡ lesser (g i) (get_or old i 0)
    go i h (yes l) = t.kept.below i l ∙ front old mid g a r i l
    go i h (no l) =
        let at : a + (i - a) ≡ i = omega arith in
        let here : get_or new (a + (i - a)) 0 ≡ lesser (g (a + (i - a))) (get_or mid (a + (i - a)) 0) = t.each (i - a) (omega arith) in
        subst (λ (j : ℕ). get_or new j 0 ≡ lesser (g j) (get_or mid j 0)) at here ∙ ap (lesser (g i)) (r.kept.above i (omega arith))

pub tried_done : (old new : List ℕ) (g : ℕ → ℕ) (m s : ℕ) → TriedFrom old new g 0 m → s ≤ m → TriedAt s old new g × Marked new
tried_done old new g m s r l = (record { long = r.marked.long; each = λ k h. front old new g m r k (omega arith) }, r.marked)
