-- The steps of laying a board out: each leaves its own rows, and what the steps before it laid.
use Prim.Native.Nat.{ℕ, ◌+◌, ◌^◌, ◌<◌}
use native.Mathlib.Omega.{arith}
use mathlib.Core.Path.{◌≡◌, refl, sym, ap, ◌∙◌}
use mathlib.Core.List.{List}
use mathlib.Core.Bool.{Bool, true, false, ◌&&◌}
use borrow.Author.Tests.{ne_eqb}
use lib.Dec.{eqb}
use lib.ListN.{length, get_or, set}
use Rattle.std.proofs.lemmas.Grind.{common_steps}
use Rattle.relations.specs.Code.{EndsOf, SidesOf}
use Rattle.query.specs.declared.Query.{Query}
use Rattle.query.specs.Query.{Valid, home, index, size, join_rate}
use Rattle.query.specs.Spared.{spareable, spared}
use Rattle.query.proofs.Prices.{spared_alone}
use Rattle.board.specs.Figures.{Lanes}
use Rattle.board.specs.Board.{entries, lane, fixed_of, spareable_of}
use Rattle.board.specs.Laying.{Laid, JoiningLaid, RelationsLaid}
use Rattle.board.proofs.Here.{drawn_here}

-- The rows of the joins and of joining: each is laid once, and no later row of the four touches it.
pub joining_laid : (a b c d e v w f g ends sides : List ℕ) (q : Query) → Valid q → length a ≡ entries →
    Laid a b 0 (λ i. get_or v i 0) 8 → Laid b c 1 (λ i. get_or w i 0) 8 → Laid c d 2 (λ k. get_or f k 0) 8 → Laid d e 3 (λ k. get_or g k 0) 8 →
    EndsOf q.joins ends q.joins.count → SidesOf q.joins sides q.joins.count → Lanes v (λ i. get_or ends i 0) → Lanes w (λ i. get_or sides i 0) →
    Lanes f (fixed_of q) → Lanes g (join_rate q) → JoiningLaid a e q
joining_laid a b c d e v w f g ends sides q valid n one two three four es ss vs ws fs gs =
    let few = drawn_here q valid in grind (arith, common_steps)

-- A relation in a row, with its index and without.
pub index_laid : (q : Query) (a b : List ℕ) (i r h m size : ℕ) → h ≡ get_or q.relations.home r 0 → m ≡ 2 ^ r → size ≡ get_or q.sizes m 0 → get_or q.relations.index r 0 ≡ 1 →
    Laid a b i (λ k. spared (lane a i k) (spareable (eqb h k) size)) 8 → Laid a b i (λ k. spared (lane a i k) (spareable_of q r k)) 8
unfolding spareable_of home index size
index_laid q a b i r h m size at single of flagged laid =
    record { kept = laid.kept; each = λ k low. laid.each k low ∙ ap (spared (lane a i k)) (is k) }
  where
    both : (t : Bool) → t ≡ (t && true)
    both true = refl
    both false = refl

    is : (k : ℕ) → spareable (eqb h k) size ≡ spareable_of q r k
    is k = rw (of, single, at, flagged) (ap (λ (t : Bool). spareable t (get_or q.sizes (2 ^ r) 0)) (both (eqb (get_or q.relations.home r 0) k)))

pub no_index_laid : (q : Query) (a : List ℕ) (i r : ℕ) → (get_or q.relations.index r 0 ≡ 1 → ⊥) → Laid a a i (λ k. spared (lane a i k) (spareable_of q r k)) 8
unfolding spareable_of index
no_index_laid q a i r plain =
    record { kept = record { long = refl; below = λ j h. refl; above = λ j h. refl }; each = λ k low. rw (ne_eqb (get_or q.relations.index r 0) 1 plain) (sym (none k (eqb (home q r) k))) }
  where
    none : (k : ℕ) (t : Bool) → spared (lane a i k) (spareable (t && false) (size q (2 ^ r))) ≡ lane a i k
    none k true = (spared_alone (lane a i k)).0
    none k false = (spared_alone (lane a i k)).0

-- One relation more.
pub relations_more : (q : Query) (old a b : List ℕ) (r x : ℕ) → RelationsLaid old a q r → r < 9 → length a ≡ entries → x ≡ 2 ^ home q r →
    Laid (set a (304 + r) x) b (4 + r) (λ k. spared (lane (set a (304 + r) x) (4 + r) k) (spareable_of q r k)) 8 → RelationsLaid old b q (r + 1)
relations_more q old a b r x before low long is laid = grind (arith, common_steps)
