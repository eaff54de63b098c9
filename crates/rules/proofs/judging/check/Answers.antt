-- `judging::check` meets its contract: a whole plan is run. Assumes nothing.
use Rattle.rules.proofs.Checking.{plan_run}
use Rattle.rules.proofs.judging.check.Goals as goal

pub returns-in-len1-up : goal.returns-in-len1-up
returns-in-len1-up c =
    plan_run _ _ _ _ _ c.in-len1-up.len_at_least c.is_whole.ensures c.if-is_whole.true c.as_chunks.ensures.front c.run.ensures
