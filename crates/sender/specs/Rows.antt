-- A row of figures, a lane a site, that is tried against other figures: each lane keeps the lesser.
use Rattle.std.specs.Prelude.{ℕ, ◌+◌, ◌<◌, ◌≡◌, List, get_or}
use Rattle.relations.specs.Code.{Listed}
use Rattle.board.specs.Figures.{lesser, Marked}
use Rattle.board.specs.Laying.{Kept}

-- A row whose first s lanes, one for each site, are g 0, g 1, ..
abbrev pub AtSites : (s : ℕ) → List ℕ → (ℕ → ℕ) → Type 0
AtSites s row g = Listed row g 8 s

-- The row with the figure g k at each site k where it is less.
abbrev pub TriedAt : (s : ℕ) → (old new : List ℕ) → (ℕ → ℕ) → Type 0
TriedAt s old new g = AtSites s new (λ (k : ℕ). lesser (g k) (get_or old k 0))

-- The same at the m sites from one on; every other lane is as it was.
pub record TriedFrom (old new : List ℕ) (g : ℕ → ℕ) (site m : ℕ) : Type 0 where
  pub kept : Kept old new site (site + m)
  pub each : (i : ℕ) → i < m → get_or new (site + i) 0 ≡ lesser (g (site + i)) (get_or old (site + i) 0)
  pub marked : Marked new
