-- The cheapest route of just so many sends: no send stays, and of more the first goes to its next site.
use Prim.Native.Nat.{ℕ, suc, ◌+◌, ◌<◌}
use mathlib.Core.Path.{◌≡◌, refl, sym}
use mathlib.Core.Bool.{Bool, true, false}
use lib.Dec.{eqb}
use borrow.Author.Tests.{eq-eqb, eqb-true}
use Rattle.query.specs.Choice.{pick}
use Rattle.query.specs.Cost.{Cost, none, some, plus, AtMost}
use Rattle.routes.specs.Routes.{by_sends, next_site}
use Rattle.routes.proofs.Costs.{none_some, some_same, Two, both_found, plus_most}
use Rattle.routes.proofs.Least.{least_most, least_found}

-- Nothing is sent where it stays, and no send leads elsewhere.
pub none_sent : (line : ℕ → ℕ → Cost) (s k t x : ℕ) → by_sends line s 0 k t ≡ some x → (k ≡ t) × (x ≡ 0)
unfolding by_sends
none_sent line s k t x e = go (eqb k t) refl e
  where
    go : (b : Bool) → eqb k t ≡ b → pick b (some 0) none ≡ some x → (k ≡ t) × (x ≡ 0)
    go true h e = (eqb-true k t h, sym (some_same 0 x e))
    go false h e = absurd (none_some x e)

pub stays_there : (line : ℕ → ℕ → Cost) (s k : ℕ) → by_sends line s 0 k k ≡ some 0
unfolding by_sends
stays_there line s k = rw (eq-eqb k k refl)

module _ (line : ℕ → ℕ → Cost) (s t : ℕ) where
  -- By way of m: a send to m and i sends on from there.
  pub by_way : (i k m x y : ℕ) → m < s → AtMost (line k m) x → AtMost (by_sends line s i m t) y → AtMost (by_sends line s (suc i) k t) (x + y)
  unfolding by_sends
  by_way i k m x y l h g =
      least_most (λ m. plus (line k m) (by_sends line s i m t)) s m (x + y) l (plus_most (line k m) (by_sends line s i m t) x y h g)

  -- The first send of a route.
  pub first_send : (i k x : ℕ) → by_sends line s (suc i) k t ≡ some x →
      (next_site line s i k t < s) × Two ◌+◌ (line k (next_site line s i k t)) (by_sends line s i (next_site line s i k t) t) x
  unfolding by_sends next_site
  first_send i k x e =
      let found = least_found (λ m. plus (line k m) (by_sends line s i m t)) s x e in
      (found.0, both_found ◌+◌ _ _ x found.1)
