-- Each test of the code is a test of the definition, in its order.
use Rattle.relations.specs.Code.{leads_out}
use Rattle.relations.proofs.growing.leads_out.Goals as goal

pub returns : goal.returns
unfolding leads_out
returns c = cc
