-- The ends bring their neighbours one after another.
use Prim.Native.Nat.{ℕ}
use mathlib.Core.Path.{◌≡◌, ◌∙◌}
use borrow.Author.Rules.{rules}
use lib.Bits.{bit_or}
use Rattle.std.specs.List.{fold}
use Rattle.sizing.specs.Code.{other_end}
use Rattle.sizing.proofs.Turns.{near_folded}
use Rattle.sizing.proofs.neighbours.neighbours_of.Goals as goal

pub returns : goal.returns
returns c =
    let all : c.fold.result ≡ fold (λ (near M : ℕ). bit_or near (other_end M c.args.r)) 0 c.args.ends.now = search rules in
    all ∙ near_folded c.args.r c.args.ends.now
