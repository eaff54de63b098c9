-- No route means no plan: the tables have none exactly when no list of bytes is an allowed plan, by the written plan and the lower bound.
use Prim.Native.Nat.{ℕ}
use mathlib.Core.Path.{◌≡◌, refl}
use mathlib.Core.List.{List}
use Rattle.query.specs.Cost.{Cost, none, some}
use Rattle.rules.specs.Allowed.{AllowedAt}
use Rattle.tables.specs.Tables.{cheapest}
use Rattle.tables.specs.Written.{written}
use Rattle.tables.specs.Theorems.{NoRouteLaw, NoneAtAll}
use Rattle.tables.proofs.Lower.{any_steps_law, cheapest_law}
use Rattle.tables.proofs.Upper.{written_law}

pub no_route_law : NoRouteLaw
no_route_law combine laws q v = (no_plan, no_number (cheapest combine q) refl)
  where
    no_plan : cheapest combine q ≡ none → (plan : List ℕ) (c : ℕ) → AllowedAt combine q plan c → ⊥
    no_plan e plan c allowed = rw e at (cheapest_law combine laws q v plan c allowed)

    no_number : (a : Cost) → cheapest combine q ≡ a → ((plan : List ℕ) (c : ℕ) → AllowedAt combine q plan c → ⊥) → a ≡ none
    no_number none e none_allowed = refl
    no_number (some c) e none_allowed = absurd (none_allowed (written combine q) c (written_law combine laws q v c e).allowed)

pub none_at_all : NoneAtAll
none_at_all combine laws q v e steps c run = rw e at (any_steps_law combine laws q v steps c run)
