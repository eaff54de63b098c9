-- `work_out` goes on from every subquery, in ascending number.
-- A turn is right at any set of the relations, so that a loop which leaves some out is refused at the return, where it is wrong, and not in the loop.
use mathlib.Core.Path.{refl}
use native.Mathlib.Omega.{arith}
use lib.Pow.{pow_pos}
use Rattle.sizing.proofs.Passing.{standing, drawn_tabled, zeros_long, startable, started, below_all, set_place, extendable, goes_on, passes, worked_out}
use Rattle.sizing.proofs.working.work_out.Goals as goal
use Rattle.sizing.proofs.working.work_out.Goals.{then-is_connected, else-is_connected}

pub neighbours-near-requires : goal.neighbours-near-requires
neighbours-near-requires c = drawn_tabled _ _ c.requires.tabled

pub begin-requires : goal.begin-requires
begin-requires c =
    let p = c.requires in
    startable _ _ _ _ _ (standing p.tabled p.counts c.neighbours-near.ensures) _ (zeros_long _ p.sizes_are_zero refl)

pub loop-set-init : goal.loop-set-init
loop-set-init c =
    let p = c.requires in
    started _ _ _ _ _ (standing p.tabled p.counts c.neighbours-near.ensures) _ _ c.begin.ensures p.sizes_are_zero

pub bounds-table-set : goal.bounds-table-set
bounds-table-set c =
    let p = c.requires in
    set_place _ _ _ _ _ (standing p.tabled p.counts c.neighbours-near.ensures) _ (below_all _ _ _ _ c.loop-set-test.true c.single-set-end.ensures (omega arith))

pub extend-requires : goal.extend-requires
extend-requires c =
    let p = c.requires in
    extendable _ _ _ _ _ (standing p.tabled p.counts c.neighbours-near.ensures) _ _ (below_all _ _ _ _ c.loop-set-test.true c.single-set-end.ensures (omega arith)) c.loop-set.invariant _ c.is_connected.ensures c.if-is_connected.true

pub loop-set-preserved : goal.loop-set-preserved
loop-set-preserved c =
    let p = c.requires in
    let s = standing p.tabled p.counts c.neighbours-near.ensures in
    elim c.if-is_connected.branch [
      | then-is_connected w ↦ rw (w.sizes-is, w.waiting-is) (goes_on _ _ _ _ _ s _ _ (below_all _ _ _ _ c.loop-set-test.true c.single-set-end.ensures (omega arith)) c.loop-set.invariant _ c.is_connected.ensures _ w.if-is_connected.true (λ a. w.extend.ensures))
      | else-is_connected w ↦ rw (w.sizes-is, w.waiting-is) (passes _ _ _ _ _ s _ _ (below_all _ _ _ _ c.loop-set-test.true c.single-set-end.ensures (omega arith)) c.loop-set.invariant _ c.is_connected.ensures w.if-is_connected.false)
    ]

pub returns : goal.returns
returns c =
    let p = c.requires in
    worked_out _ _ _ _ _ (standing p.tabled p.counts c.neighbours-near.ensures) _ _ (omega (arith, pow_pos)) c.loop-set.invariant
