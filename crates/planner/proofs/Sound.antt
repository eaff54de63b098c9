-- Every planner is sound, by its type. So what stands in one is valid.
use Rattle.std.proofs.Common.{Option, Some, None}
use Prim.Native.Nat.{ℕ}
use native.Mathlib.Omega.{arith}
use mathlib.Core.Path.{◌≡◌}
use mathlib.Core.Option.{some}
use Rattle.query.specs.declared.Query.{Query}
use Rattle.query.specs.Query.{Valid}
use Rattle.planner.specs.declared.Planner.{Planner}
use Rattle.planner.specs.declared.Standing.{Standing}
use Rattle.planner.specs.Code.{Sound, stands_in, state_of}

pub sound : (p : Planner) → Sound p
sound p = record { valid = λ s e. s.valid; counted = λ s e. s.counted }

valid_in : (o : Option Standing) (q : Query) → stands_in o ≡ some q → Valid q
valid_in None q e = absurd (let z : ◌≡◌ {A = ℕ} 0 1 = cc in omega arith)
valid_in (Some s) q e = let same : s.query ≡ q = cc in rw same at s.valid

pub standing_valid : (p : Planner) (q : Query) → state_of p ≡ some q → Valid q
standing_valid p q e = valid_in p.standing q e
