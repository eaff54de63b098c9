-- `figures::lesser` meets its contract: the kept figure and the difference where it is negative make the lesser one. Assumes nothing.
use mathlib.Core.Logic.{◌⊎◌, inl, inr}
use mathlib.Core.Path.{◌≡◌}
use mathlib.Core.Bool.{true, false}
use mir.Syntax.{w64}
use mir.Val.{of_z}
use borrow.Author.Rules.{rules}
use Rattle.board.proofs.Signed.{minus, negative, sum_lesser}
use Rattle.board.proofs.figures.lesser.Goals as goal
use Rattle.board.proofs.figures.lesser.Goals.{then-d-lt0, else-d-lt0}

came :
    (c : goal.Joined-d-lt0) →
    ((negative (minus c.args.new c.args.kept) ≡ true) × (c.if-d-lt0.less-bits ≡ of_z w64 (minus c.args.new c.args.kept)))
    ⊎ ((negative (minus c.args.new c.args.kept) ≡ false) × (c.if-d-lt0.less-bits ≡ 0))
came c = elim c.if-d-lt0.branch [ then-d-lt0 w ↦ inl (search rules, search rules) | else-d-lt0 w ↦ inr (search rules, search rules) ]

pub returns : goal.returns
returns c = sum_lesser c.args.new c.args.kept c.requires.0 c.requires.1 c.if-d-lt0.less-bits (came c)
