-- `judging::run` meets its contract: a step that goes leaves the verdict to the steps after it, and keeps the room. Assumes nothing.
use Rattle.std.proofs.Common.{◌≡◌, ℕ, ◌+◌, [], get_or, add-one, arith}
use Rattle.std.proofs.lemmas.Grind.{common_steps}
use Rattle.query.specs.declared.Query.{Query}
use Rattle.query.specs.Query.{Valid, relations_of}
use Rattle.rules.specs.Machine.{Step, Machine, went, step}
use Rattle.rules.specs.Allowed.{run}
use Rattle.rules.specs.Code.{step_of_bytes, Room}
use Rattle.rules.proofs.Combinations.{plus_combines}
use Rattle.rules.proofs.Counting.{start_room, step_room}
use Rattle.rules.proofs.judging.run.Goals as goal

room_after : (q : Query) (i : ℕ) (x : Step) (m n : Machine) → Valid q → Room (relations_of q) i m → step ◌+◌ q x.kind x.arg m ≡ went n → Room (relations_of q) (i + 1) n
room_after q i x m n v room gone = rw (gone, ← add-one i) at (step_room ◌+◌ plus_combines q v i x m room)

pub loop-i-init : goal.loop-i-init
loop-i-init c = record { room = rw c.start-state.ensures (start_room _); rest = rw c.start-state.ensures }

pub loop-i-preserved : goal.loop-i-preserved
unfolding run
loop-i-preserved c = record {
  room = room_after _ _ (step_of_bytes (get_or c.args.steps.now c.loop-i.i [])) _ _ c.requires.0 c.loop-i.invariant.room (grind (arith, common_steps));
  rest = grind (arith, common_steps);
}
