-- Each place has its join's first relation below the count, and the empty set from there on.
use Prim.Native.Nat.{ℕ, ◌^◌}
use lib.Dec.{ltb}
use borrow.Author.Rules.{rules}
use native.Mathlib.Omega.{arith}
use Rattle.relations.specs.Growth.{first}
use Rattle.relations.specs.Code.{or_none}
use Rattle.relations.proofs.Listed.{listed_first}
use Rattle.relations.proofs.Made.{made_listed}
use Rattle.relations.proofs.masks.firsts.Goals as goal

pub returns : goal.returns
returns c = listed_first _ _ _ _ 8 (made_listed _ (λ (i : ℕ). or_none (ltb i c.args.joins.count) (2 ^ first c.args.joins i)) _ (λ i y q k. (search rules, search rules)) _ _ c.from_fn.ensures.items) (omega arith) c.requires.few
