-- The figures that the loops keep are the figures of the costs: the least of figures that show costs is the figure of the least cost, at the
-- same place. A figure with none in it is no less than that of none, so it is never kept, and no sum of numbers comes near it.
use Prim.Native.Nat.{ℕ, zero, suc, ◌+◌, ◌≤◌, ◌<◌}
use native.Mathlib.Nat.{le_refl, eq-or-lt_of_le, le_of_suc-le-suc}
use native.Mathlib.Omega.{arith}
use mathlib.Core.Path.{◌≡◌, refl, ap, subst, ◌∙◌}
use mathlib.Core.Bool.{Bool, true, false}
use mathlib.Core.Logic.{◌⊎◌, inl, inr}
use lib.Dec.{ltb}
use borrow.Author.Tests.{lt-ltb, le-ltb}
use Rattle.query.specs.Choice.{pick}
use Rattle.query.specs.Cost.{Cost, none, some, both}
use Rattle.rules.specs.Combine.{Combines}
use Rattle.routes.specs.Least.{Best, better, best, least}
use Rattle.board.specs.Figures.{none_mark, mark, lesser, least_of, place_of}

-- A cost that is at most n, or none; and a figure for such a cost, which for none need only be no less than that of none.
abbrev pub UpToOr : ℕ → Cost → Type 0
UpToOr n none = Unit {0}
UpToOr n (some c) = c ≤ n

abbrev pub Shows : ℕ → ℕ → Cost → Type 0
Shows n x none = none_mark ≤ x
Shows n x (some c) = (x ≡ c) × (c ≤ n)

pub up_to_is : (n : ℕ) (c : Cost) → ((v : ℕ) → c ≡ some v → v ≤ n) → UpToOr n c
up_to_is n none h = tt
up_to_is n (some v) h = h v refl

pub mark_most : (n : ℕ) (c : Cost) → n < none_mark → UpToOr n c → mark c ≤ none_mark
mark_most n none l h = le_refl _
mark_most n (some c) l h = omega arith

-- The figure of a cost shows it; and two figures combined show the two costs combined.
pub shows_mark : (n : ℕ) (c : Cost) → UpToOr n c → Shows n (mark c) c
shows_mark n none h = le_refl _
shows_mark n (some c) h = (refl, h)

pub shows_both : (combine : ℕ → ℕ → ℕ) → Combines combine → (n m x y : ℕ) (a b : Cost) → Shows n x a → Shows m y b → Shows (n + m) (combine x y) (both combine a b)
shows_both combine C n m x y none b h g = omega (arith, C.least x y)
shows_both combine C n m x y (some c) none h g = omega (arith, C.least y x, C.comm x y)
shows_both combine C n m x y (some c) (some d) (e, h) (f, g) = (cc, omega (arith, C.most c d))

-- A kept figure and place, for the best of some costs.
pub record Kept (n : ℕ) (b : Best) (x i : ℕ) : Type 0 where
  pub figure_is : x ≡ mark b.cost
  pub at_is : i ≡ b.at
  pub most : UpToOr n b.cost

kept_more : (n m : ℕ) (new : Cost) (b : Best) (old : Cost) (x y i : ℕ) → n < none_mark → b.cost ≡ old → Kept n b x i → Shows n y new →
    Kept n (better new m b old) (lesser y x) (pick (ltb y x) m i)
unfolding lesser
kept_more n m none b old x y i l e k s =
    let no : ltb y x ≡ false = le-ltb y x (omega (arith, k.figure_is, mark_most n b.cost l k.most)) in
    rw no k
kept_more n m (some c) b none x y i l e k (a, s) =
    let yes : ltb y x ≡ true = lt-ltb y x (omega (arith, k.figure_is, ap mark e)) in
    rw yes (record { figure_is = a; at_is = refl; most = s })
kept_more n m (some c) b (some d) x y i l e k (a, s) = go (ltb c d) refl
  where
    x_is : x ≡ d
    x_is = k.figure_is ∙ ap mark e

    same : ltb y x ≡ ltb c d
    same = rw (a, x_is)

    go : (t : Bool) → ltb c d ≡ t → Kept n (pick (ltb c d) (record { cost = some c; at = m }) b) (pick (ltb y x) y x) (pick (ltb y x) m i)
    go true h = rw (same, h) (record { figure_is = a; at_is = refl; most = s })
    go false h = rw (same, h) k

-- The least of the figures is the figure of the least cost, and stands at the same place.
pub kept_all : (n : ℕ) → n < none_mark → (f : ℕ → Cost) (g : ℕ → ℕ) (m : ℕ) → ((i : ℕ) → i < m → Shows n (g i) (f i)) → Kept n (best f m) (least_of g m) (place_of g m)
unfolding best least_of place_of
kept_all n l f g zero h = record { figure_is = refl; at_is = refl; most = tt }
kept_all n l f g (suc m) h =
    kept_more n m (f m) (best f m) (least f m) (least_of g m) (g m) (place_of g m) l refl (kept_all n l f g m (λ i k. h i (omega arith))) (h m (le_refl _))

-- Further figures that show none change nothing.
pub kept_rest : (n : ℕ) → n < none_mark → (b : Best) (g : ℕ → ℕ) (m k : ℕ) → m ≤ k → ((i : ℕ) → m ≤ i → none_mark ≤ g i) → Kept n b (least_of g m) (place_of g m) →
    Kept n b (least_of g k) (place_of g k)
unfolding least_of place_of
kept_rest n l b g m zero h rest kept = let first : m ≡ 0 = omega arith in subst (λ (i : ℕ). Kept n b (least_of g i) (place_of g i)) first kept
kept_rest n l b g m (suc k) h rest kept = go (eq-or-lt_of_le h) (λ low. kept_rest n l b g m k low rest kept)
  where
    go : (m ≡ suc k) ⊎ (m < suc k) → (m ≤ k → Kept n b (least_of g k) (place_of g k)) → Kept n b (least_of g (suc k)) (place_of g (suc k))
    go (inl e) before = subst (λ (i : ℕ). Kept n b (least_of g i) (place_of g i)) e kept
    go (inr low) before =
        kept_more n k none b b.cost (least_of g k) (g k) (place_of g k) l refl (before (le_of_suc-le-suc low)) (rest k (le_of_suc-le-suc low))

-- Where each shows none, the figure of none is kept.
pub none_kept : (g : ℕ → ℕ) (m : ℕ) → ((i : ℕ) → none_mark ≤ g i) → least_of g m ≡ none_mark
unfolding least_of place_of
none_kept g m h =
    (kept_rest 0 (omega arith) (record { cost = none; at = 0 }) g 0 m (omega arith) (λ i l. h i) (record { figure_is = refl; at_is = refl; most = tt })).figure_is
