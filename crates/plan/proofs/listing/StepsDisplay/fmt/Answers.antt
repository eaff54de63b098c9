-- Each turn writes a step's line, and at the end no step is left.
use Rattle.std.proofs.Common.{rules, [], ◌++◌, ◌∙◌}
use Rattle.std.proofs.Output.{has_written_append, has_written_of_eq}
use Rattle.plan.specs.Text.{steps_text}
use Rattle.plan.proofs.Steps.{line, step_more, step_none}
use Rattle.plan.proofs.listing.StepsDisplay.fmt.Goals as goal

pub loop-step-init : goal.loop-step-init
loop-step-init g c = (search rules, λ plain. ([], search rules, search rules))

pub loop-step-preserved : goal.loop-step-preserved
loop-step-preserved g c =
    let (next, fewer) = c.in-Some.ensures.steps in
    let two = next.1.1 ∙ c.loop-step.invariant.0 in (
      search rules,
      λ plain.
          let so_far = c.loop-step.invariant.1 plain in (
            so_far.0 ++ line c.in-Some.step.now,
            has_written_append _ _ _ _ _ _ so_far.1 (search rules),
            step_more _ _ _ (steps_text c.args.self.now.count c.args.self.now.bytes.now) _ _ _ fewer next.1.0 two so_far.2,
          ),
    )

pub returns-clause-writes : goal.returns-clause-writes
returns-clause-writes g c = λ plain ok.
    let so_far = c.loop-step.invariant.1 plain in
    has_written_of_eq _ _ _ _ _ (step_none _ _ _ (steps_text c.args.self.now.count c.args.self.now.bytes.now) (λ more. rw c.loop-step.invariant.0 at ((c.in-None.ensures.steps more).1.0)) so_far.2) so_far.1
