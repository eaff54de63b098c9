-- `extend` passes the relations that wait for the set, from the lowest on.
use mathlib.Core.Path.{refl}
use native.Mathlib.Omega.{arith}
use Rattle.sizing.proofs.Beginning.{place_scaled}
use Rattle.sizing.proofs.Walking.{set_in, above_asks, next_low, next_within, more_place, more_word}
use Rattle.sizing.proofs.Walking.{join_there, join_few, joined_asks, extending_next, extending_done}
use Rattle.sizing.proofs.working.Given.extend.Goals as goal

pub offset_bounds-sizes-set : goal.offset_bounds-sizes-set
offset_bounds-sizes-set c = place_scaled _ _ (set_in c.requires).2 (omega arith)

pub bounds-sizes-set : goal.bounds-sizes-set
bounds-sizes-set c = (set_in c.requires).2

pub offset_bounds-self-set : goal.offset_bounds-self-set
offset_bounds-self-set c = place_scaled _ _ (set_in c.requires).2 (omega arith)

pub bounds-self-set : goal.bounds-self-set
bounds-self-set c = (set_in c.requires).2

pub offset_bounds-waiting-set : goal.offset_bounds-waiting-set
offset_bounds-waiting-set c = place_scaled _ _ (set_in c.requires).2 (omega arith)

pub bounds-waiting-set : goal.bounds-waiting-set
bounds-waiting-set c = (set_in c.requires).2

pub overflow_sub-left : goal.overflow_sub-left
overflow_sub-left c =
    let a = c.requires in
    next_within a c.loop-left.invariant c.loop-left-test.true _ c.single-one.ensures

pub overflow_add-more : goal.overflow_add-more
overflow_add-more c =
    let a = c.requires in
    more_word a c.loop-left.invariant c.loop-left-test.true _ c.single-one.ensures

pub offset_bounds-self-more : goal.offset_bounds-self-more
offset_bounds-self-more c =
    let a = c.requires in
    place_scaled _ _ (more_place a c.loop-left.invariant c.loop-left-test.true _ _ c.single-one.ensures refl) (omega arith)

pub bounds-self-more : goal.bounds-self-more
bounds-self-more c =
    let a = c.requires in
    more_place a c.loop-left.invariant c.loop-left-test.true _ _ c.single-one.ensures refl

pub overflow_sub-e : goal.overflow_sub-e
overflow_sub-e c =
    let a = c.requires in
    join_there a c.loop-left.invariant c.loop-left-test.true _ _ _ _ c.single-one.ensures refl c.joins_in-held.ensures c.joins_in.ensures

pub bounds-self-r : goal.bounds-self-r
bounds-self-r c =
    let a = c.requires in
    next_low a c.loop-left.invariant c.loop-left-test.true

pub bounds-self-e : goal.bounds-self-e
bounds-self-e c =
    let a = c.requires in
    join_few a c.loop-left.invariant c.loop-left-test.true _ _ _ _ c.single-one.ensures refl c.joins_in-held.ensures c.joins_in.ensures

pub joined_size-requires : goal.joined_size-requires
joined_size-requires c =
    let a = c.requires in
    let asks = joined_asks a c.loop-left.invariant c.loop-left-test.true _ _ _ _ c.single-one.ensures refl c.joins_in-held.ensures c.joins_in.ensures in
    record { size_most = asks.0; divisor_in_range = asks.1 }

pub offset_bounds-sizes-more : goal.offset_bounds-sizes-more
offset_bounds-sizes-more c =
    let a = c.requires in
    place_scaled _ _ (more_place a c.loop-left.invariant c.loop-left-test.true _ _ c.single-one.ensures refl) (omega arith)

pub bounds-sizes-more : goal.bounds-sizes-more
bounds-sizes-more c =
    let a = c.requires in
    more_place a c.loop-left.invariant c.loop-left-test.true _ _ c.single-one.ensures refl

pub bounds-self-r-in-loop-left : goal.bounds-self-r-in-loop-left
bounds-self-r-in-loop-left c =
    let a = c.requires in
    next_low a c.loop-left.invariant c.loop-left-test.true

pub above-requires : goal.above-requires
above-requires c = above_asks c.requires

pub offset_bounds-waiting-more : goal.offset_bounds-waiting-more
offset_bounds-waiting-more c =
    let a = c.requires in
    place_scaled _ _ (more_place a c.loop-left.invariant c.loop-left-test.true _ _ c.single-one.ensures refl) (omega arith)

pub bounds-waiting-more : goal.bounds-waiting-more
bounds-waiting-more c =
    let a = c.requires in
    more_place a c.loop-left.invariant c.loop-left-test.true _ _ c.single-one.ensures refl

pub loop-left-preserved : goal.loop-left-preserved
loop-left-preserved c = extending_next c.requires c.loop-left.invariant c.loop-left-test.true _ _ _ _ _ _ c.single-one.ensures refl c.joins_in-held.ensures c.joins_in.ensures c.joined_size.ensures c.above.ensures

pub returns : goal.returns
returns c = extending_done c.requires c.loop-left.invariant c.loop-left-test.false
