-- What was written so far, then the steps that are left, are all of the steps.
use Rattle.std.proofs.Common.{◌≡◌, ℕ, List, ◌++◌}
use Rattle.std.specs.Slice.Iter.{chunks_exact_rest, chunks_exact_size}
use Rattle.std.specs.Iterator.Adapters.{take_source, take_count}
use Rattle.std.specs.Fmt.{HasWritten, IsPlainFormatter}
use Rattle.plan.specs.Text.{steps_text}
use Rattle.plan.proofs.listing.StepsDisplay.fmt.Given as goal

abbrev pub invariant-loop-step : goal.invariant-loop-step
invariant-loop-step g l =
    (chunks_exact_size (take_source l.step-iterator) ≡ 2)
    × (IsPlainFormatter l.initial.f → (done : List ℕ) × HasWritten g.W.Write.write_str_gives l.initial.f done l.f
    × (done ++ steps_text (take_count l.step-iterator) (chunks_exact_rest (take_source l.step-iterator)) ≡ steps_text l.self.count l.self.bytes.now))
