-- Relation 0 grows within all relations, and the answer compares what it grows to with them.
use native.Mathlib.Omega.{arith}
use Rattle.relations.specs.Trees.{reaches}
use Rattle.relations.proofs.Drawing.{single_growable}
use Rattle.relations.proofs.tree.reaches.Goals as goal

pub grow-requires : goal.grow-requires
unfolding reaches
grow-requires c = (_, single_growable _ _ 0 _ _ c.requires c.ends-around.ensures (omega arith) c.whole-every.ensures c.single.ensures)

pub returns : goal.returns
unfolding reaches
returns c = let grown = c.grow.ensures _ (single_growable _ _ 0 _ _ c.requires c.ends-around.ensures (omega arith) c.whole-every.ensures c.single.ensures) in cc
