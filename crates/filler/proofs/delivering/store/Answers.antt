-- `delivering::store` meets its contract: each turn stores two cells more. Assumes nothing.
use Prim.Native.Nat.{◌+◌}
use native.Mathlib.Omega.{arith}
use mathlib.Core.Path.{◌≡◌, refl, subst}
use lib.ListN.{length-set}
use Rattle.filler.specs.Cells.{reach, Stored}
use Rattle.filler.proofs.Places.{pair_within}
use Rattle.filler.proofs.CellsStored.{stored_pair}
use Rattle.filler.proofs.delivering.store.Goals as goal

pub bounds-row-t : goal.bounds-row-t
bounds-row-t c = omega (arith, pair_within _ c.loop-t.t _ _ c.loop-t.invariant.0.0.1 c.reach-t-end.ensures c.loop-t-test.true)

pub bounds-row-t-in-loop-t : goal.bounds-row-t-in-loop-t
bounds-row-t-in-loop-t c = omega (arith, pair_within _ c.loop-t.t _ _ c.loop-t.invariant.0.0.1 c.reach-t-end.ensures c.loop-t-test.true)

pub bounds-work-at-in-loop-t : goal.bounds-work-at-in-loop-t
bounds-work-at-in-loop-t c =
    rw (length-set _ _ _)
    (omega (arith, pair_within _ c.loop-t.t _ _ c.loop-t.invariant.0.0.1 c.reach-t-end.ensures c.loop-t-test.true, c.loop-t.invariant.1.kept.long, c.requires.1))

pub loop-t-preserved : goal.loop-t-preserved
loop-t-preserved c =
    let i = c.loop-t.invariant in
    let p = pair_within _ c.loop-t.t _ _ i.0.0.1 c.reach-t-end.ensures c.loop-t-test.true in
    (((i.0.0.0 + 1, omega (arith, i.0.0.1)), p.0), stored_pair _ _ _ _ _ _ _ _ _ i.1 (omega (arith, p, c.requires.1)) refl refl refl refl)

pub returns-2 : goal.returns-2
returns-2 c =
    let i = c.loop-t.invariant in
    let p = pair_within _ c.loop-t.t _ _ i.0.0.1 c.reach-t-end.ensures c.loop-t-test.true in
    let end : c.loop-t.t + 2 ≡ reach c.args.sites = omega (arith, p, c.reach-t-end.ensures) in
    subst (Stored _ _ _ _) end (stored_pair _ _ _ _ _ _ _ _ _ i.1 (omega (arith, p, c.requires.1)) refl refl refl refl)
