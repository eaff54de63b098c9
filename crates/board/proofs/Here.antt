-- What a valid query grants the steps of laying its board.
use Prim.Native.Nat.{ℕ, ◌+◌, ◌<◌}
use native.Mathlib.Omega.{arith}
use Rattle.relations.specs.Trees.{Tree}
use Rattle.relations.specs.Code.{Drawn}
use Rattle.query.specs.declared.Query.{Query}
use Rattle.query.specs.Query.{Valid, relations_of, home}

-- Its joins make a tree and are drawn, and its homes are numbers of sites.
pub tree_here : (q : Query) → Valid q → Tree q.joins (q.joins.count + 1)
tree_here q v = rw v.tree.joins v.tree

pub drawn_here : (q : Query) → Valid q → Drawn q.joins
drawn_here q v =
    let t = tree_here q v in
    record { few = omega (arith, v.tree.joins, v.relations_most); first_in = t.first_in; second_in = t.second_in }

pub home_low : (q : Query) → Valid q → (r : ℕ) → r < relations_of q → home q r < 8
home_low q v r h = omega (arith, v.homes r h, v.sites_most)
