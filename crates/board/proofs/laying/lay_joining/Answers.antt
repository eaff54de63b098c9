-- Four rows, each laid once.
use borrow.Author.Rules.{rules}
use Rattle.query.specs.Query.{may_join, join_fixed, join_rate}
use Rattle.board.specs.Board.{fixed_of}
use Rattle.board.proofs.Given.{lanes_given, lanes_mapped}
use Rattle.board.proofs.LaidSteps.{joining_laid}
use Rattle.board.proofs.laying.lay_joining.Goals as goal

pub returns : goal.returns
unfolding fixed_of may_join join_fixed join_rate
returns c =
    joining_laid _ _ _ _ _ _ _ _ _ _ _ _ c.requires (search rules) c.lay.ensures c.lay-2.ensures c.lay-3.ensures c.lay-4.ensures c.ends-ends.ensures c.sides-sides.ensures
    (lanes_mapped _ _ _ _ (λ p q x v b. search rules) c.map.ensures.items)
    (lanes_mapped _ _ _ _ (λ p q x v b. search rules) c.map-2.ensures.items)
    (lanes_given _ _ _ (λ k v q b. search rules) _ c.from_fn-fixed.ensures.items)
    (lanes_mapped _ _ _ _ (λ p q x v b. search rules) c.map-3.ensures.items)
