-- What is proved of the plan rules. The proof is in proofs/.
use Rattle.std.specs.Prelude.{ℕ, ◌+◌, ◌≡◌, List, ◌∷◌}
use Rattle.query.specs.declared.Query.{Query}
use Rattle.rules.specs.Machine.{start}
use Rattle.rules.specs.Allowed.{AllowedAt, steps_of, spent}

-- The figure at which a plan is accepted is the sum over its sends and joins.
abbrev pub CostIsSum : Type 0
CostIsSum = (q : Query) (count : ℕ) (bytes : List ℕ) (c : ℕ) → AllowedAt ◌+◌ q (count ∷ bytes) c → c ≡ spent q (steps_of bytes) start
