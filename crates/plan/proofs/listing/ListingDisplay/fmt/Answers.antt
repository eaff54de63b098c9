-- A plan: the count, and the bytes behind it, of which the output has 272.
use Rattle.std.proofs.Common.{rules, ◌≤◌, length, drop}
use Rattle.std.proofs.lemmas.List.{take_all}
use Rattle.plan.proofs.listing.ListingDisplay.fmt.Goals as goal

pub returns-in-Ok-Found-clause-writes : goal.returns-in-Ok-Found-clause-writes
returns-in-Ok-Found-clause-writes g c =
    let found = rw c.in-Ok-Found.is at c.in-Ok-Found.field-0-is in
    let short : length (drop 1 c.args.self.now.output) ≤ 272 = search rules in
    rw (c.in-Ok-Found.is, found, ← take_all 272 (drop 1 c.args.self.now.output) short) c.write.ensures.writes
