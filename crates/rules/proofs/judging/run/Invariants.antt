-- `judging::run` meets its contract: the verdict of the whole plan is that of the steps from i on, and a step that goes keeps the room.
use Rattle.std.proofs.Common.{◌≡◌, ◌+◌, map, drop}
use Rattle.query.specs.Query.{relations_of}
use Rattle.rules.specs.Machine.{start}
use Rattle.rules.specs.Allowed.{run}
use Rattle.rules.specs.Code.{machine_of, step_of_bytes, Room}
use Rattle.rules.proofs.judging.run.Given as goal

abbrev pub invariant-loop-i : goal.invariant-loop-i
invariant-loop-i l = record {
  room : Room (relations_of l.q) l.i (machine_of l.state);
  rest : run ◌+◌ l.q 0 (map step_of_bytes l.steps) start ≡ run ◌+◌ l.q l.i (map step_of_bytes (drop l.i l.steps)) (machine_of l.state);
}
