-- Growth along joins, one relation at a time: how the part beyond a join comes about (rule 2.5).
use Rattle.std.specs.Prelude.{ℕ, zero, suc, ◌+◌, ◌<◌, ◌≡◌, Bool, true, false, not, ◌&&◌, get_or, eqb}
use Rattle.relations.specs.declared.Joins.{Joins}
use Rattle.relations.specs.Sets.{bit, put}

-- The two relations that join e links.
abbrev pub first : Joins → ℕ → ℕ
first J e = get_or J.first e 0

abbrev pub second : Joins → ℕ → ℕ
second J e = get_or J.second e 0

-- Join e lies in S: both its relations do.
unfoldable pub inside : Joins → ℕ → ℕ → Bool
inside J S e = eqb (bit S (first J e) + bit S (second J e)) 2

-- Join e leads out of A within S: it is not the skipped join x, lies in S, and has just one of its relations in A.
-- The skipped join is a number; the count of joins, which is no join, skips none.
unfoldable pub leads : Joins → ℕ → ℕ → ℕ → ℕ → Bool
leads J S x A e = (not (eqb e x) && inside J S e) && eqb (bit A (first J e) + bit A (second J e)) 1

-- A with both relations of join e.
abbrev pub along : Joins → ℕ → ℕ → ℕ
along J A e = put (put A (first J e)) (second J e)

-- A with the relation that the lowest join of e, e + 1, .. (m of them) that leads out brings; A itself where none does.
unfoldable pub step : Joins → ℕ → ℕ → ℕ → ℕ → ℕ → ℕ
step J S x A zero e = A
step J S x A (suc m) e = elim (leads J S x A e) [ true ↦ along J A e | false ↦ step J S x A m (suc e) ]

-- k steps of growth from A within S, skipping x. A step from where no join leads out changes nothing.
unfoldable pub grow : Joins → ℕ → ℕ → ℕ → ℕ → ℕ
grow J S x zero A = A
grow J S x (suc k) A = grow J S x k (step J S x A J.count 0)

-- No join but x leads out of A within S.
abbrev pub Closed : Joins → ℕ → ℕ → ℕ → Type 0
Closed J S x A = (e : ℕ) → e < J.count → (e ≡ x → ⊥) → bit S (first J e) ≡ 1 → bit S (second J e) ≡ 1 → bit A (first J e) ≡ bit A (second J e)
