-- Laws of the least of some costs: no candidate is below it, where it is a number it is the candidate at the place named,
-- and equal candidates have the same least at the same place.
use Prim.Native.Nat.{ℕ, zero, suc, ◌≤◌, ◌<◌}
use mathlib.Core.Path.{◌≡◌, refl, ap, subst, ◌∙◌}
use mathlib.Core.Bool.{Bool, true, false}
use mathlib.Core.Logic.{◌⊎◌, inl, inr}
use lib.Dec.{ltb}
use native.Mathlib.Nat.{le_refl, le_of_suc-le-suc, eq-or-lt_of_le}
use native.Mathlib.Omega.{arith}
use borrow.Author.Tests.{ltb-true, ltb-false}
use Rattle.query.specs.Choice.{pick}
use Rattle.query.specs.Cost.{Cost, none, some, AtMost}
use Rattle.routes.specs.Least.{Best, better, best, least, lowest_at}
use Rattle.routes.proofs.Costs.{none_some, some_same, at_most_is, number}

abbrev this : ℕ → ℕ → Best
this c i = record { cost = some c; at = i }

-- The better of two is at most either.
better_most : (new : Cost) (i : ℕ) (b : Best) (old : Cost) (x : ℕ) → b.cost ≡ old → AtMost old x ⊎ AtMost new x → AtMost (better new i b old).cost x
better_most none i b old x e (inl h) = rw e h
better_most none i b old x e (inr h) = absurd h
better_most (some c) i b none x e (inl h) = absurd h
better_most (some c) i b none x e (inr h) = h
better_most (some c) i b (some d) x e h = go (ltb c d) refl h
  where
    go : (t : Bool) → ltb c d ≡ t → AtMost (some d) x ⊎ AtMost (some c) x → AtMost (pick {A = Best} t (this c i) b).cost x
    go true l (inl h) = omega (arith, ltb-true c d l)
    go true l (inr h) = h
    go false l (inl h) = rw e h
    go false l (inr h) = rw e (omega (arith, ltb-false c d l))

-- Each candidate bounds the least.
pub least_most : (f : ℕ → Cost) (m i x : ℕ) → i < m → AtMost (f i) x → AtMost (least f m) x
unfolding best
least_most f zero i x l h = absurd (omega arith)
least_most f (suc m) i x l h = go (eq-or-lt_of_le (le_of_suc-le-suc l)) (least_most f m i x)
  where
    go : (i ≡ m) ⊎ (i < m) → (i < m → AtMost (f i) x → AtMost (least f m) x) → AtMost (better (f m) m (best f m) (least f m)).cost x
    go (inl e) before = better_most (f m) m (best f m) (least f m) x refl (inr (rw e at h))
    go (inr e) before = better_most (f m) m (best f m) (least f m) x refl (inl (before e h))

-- A least that is a number is the candidate at its place.
abbrev Found : (ℕ → Cost) → ℕ → Best → ℕ → Type 0
Found f m b c = (b.at < m) × (f b.at ≡ some c)

better_found : (f : ℕ → Cost) (m : ℕ) (b : Best) (new old : Cost) (c : ℕ) → f m ≡ new → b.cost ≡ old → ((d : ℕ) → b.cost ≡ some d → Found f m b d) →
    (better new m b old).cost ≡ some c → Found f (suc m) (better new m b old) c
better_found f m b none old c here e before h = (let g = before c h in (omega arith, g.1))
better_found f m b (some d) none c here e before h = (le_refl _, cc)
better_found f m b (some d) (some a) c here e before h = go (ltb d a) h
  where
    go : (t : Bool) → (pick {A = Best} t (this d m) b).cost ≡ some c → Found f (suc m) (pick t (this d m) b) c
    go true h = (le_refl _, cc)
    go false h = (let g = before c h in (omega arith, g.1))

pub least_found : (f : ℕ → Cost) (m c : ℕ) → least f m ≡ some c → (lowest_at f m < m) × (f (lowest_at f m) ≡ some c)
unfolding best
least_found f zero c h = absurd (none_some c h)
least_found f (suc m) c h = better_found f m (best f m) (f m) (least f m) c refl refl (least_found f m) h

-- A candidate that is at most a number, where the least is.
pub some_candidate : (f : ℕ → Cost) (m x : ℕ) → AtMost (least f m) x → (i : ℕ) × ((i < m) × AtMost (f i) x)
some_candidate f m x h =
    let found = number (least f m) x h in
    let there = least_found f m found.0 found.1.0 in
    (lowest_at f m, (there.0, at_most_is (f (lowest_at f m)) found.0 x there.1 found.1.1))

-- More candidates are no dearer.
pub least_longer : (f : ℕ → Cost) (m n x : ℕ) → m ≤ n → AtMost (least f m) x → AtMost (least f n) x
least_longer f m n x l h =
    let there = some_candidate f m x h in
    least_most f n there.0 x (omega (arith, there.1.0)) there.1.1

-- No candidate that is as little stands at a lower place.
pub lowest_most : (f : ℕ → Cost) (m i c : ℕ) → i < m → least f m ≡ some c → AtMost (f i) c → lowest_at f m ≤ i
unfolding best
lowest_most f zero i c l is h = absurd (omega arith)
lowest_most f (suc m) i c l is h = go (f m) (least f m) refl refl (eq-or-lt_of_le (le_of_suc-le-suc l)) is (λ low e. lowest_most f m i c low e h)
  where
    -- Where the last candidate is the better one, none before it is as little; where it is not, the place is below it.
    go : (new old : Cost) → f m ≡ new → least f m ≡ old → (i ≡ m) ⊎ (i < m) → (better new m (best f m) old).cost ≡ some c →
        (i < m → least f m ≡ some c → lowest_at f m ≤ i) → (better new m (best f m) old).at ≤ i
    go none old e g (inl same) is before = absurd (subst (λ (x : Cost). AtMost x c) (ap f same ∙ e) h)
    go none old e g (inr low) is before = before low is
    go (some d) none e g (inl same) is before = omega arith
    go (some d) none e g (inr low) is before = absurd (subst (λ (x : Cost). AtMost x c) g (least_most f m i c low h))
    go (some d) (some a) e g which is before = weigh (ltb d a) refl which is
      where
        weigh : (t : Bool) → ltb d a ≡ t → (i ≡ m) ⊎ (i < m) → (pick {A = Best} t (this d m) (best f m)).cost ≡ some c →
            (pick {A = Best} t (this d m) (best f m)).at ≤ i
        weigh true less (inl same) is = omega arith
        weigh true less (inr low) is =
            absurd (omega (arith, some_same d c is, ltb-true d a less, subst (λ (x : Cost). AtMost x c) g (least_most f m i c low h)))
        weigh false less (inl same) is = omega (arith, (least_found f m c is).0)
        weigh false less (inr low) is = before low is

-- Candidates that are equal below m have the same least.
pub best_same : (f g : ℕ → Cost) (m : ℕ) → ((i : ℕ) → i < m → f i ≡ g i) → best f m ≡ best g m
unfolding best
best_same f g zero h = refl
best_same f g (suc m) h =
    let here : f m ≡ g m = h m (le_refl _) in
    let before : best f m ≡ best g m = best_same f g m (λ i l. h i (omega arith)) in
    cc
