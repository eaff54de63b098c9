-- The gate decides, or the routes do.
use native.Mathlib.Omega.{arith}
use Rattle.router.proofs.FewestSends.{once_most}
use Rattle.router.proofs.Gates.{site_chosen, first_listed, gate}
use Rattle.router.proofs.choosing.site_for.Goals as goal

pub once_sent-sent-requires : goal.once_sent-sent-requires
once_sent-sent-requires c =
    let p = c.requires.least in
    (first_listed _ _ _ _ _ p.0 p.1 _ c.in-Some.ensures.1, omega (arith, c.requires.marked.1, c.args.sending.carriable.few))

pub returns-then-row-k : goal.returns-then-row-k
returns-then-row-k c =
    let p = c.requires.least in
    let before = c.in-Some.ensures.1 in
    let listed = first_listed _ _ _ _ _ p.0 p.1 _ before in
    record {
      at_is = gate _ _ _ _ _ p.0 p.1 _ _ listed before (rw c.once_sent-sent.ensures.0 (once_most _ _ _ _ listed c.requires.marked.1)) c.if-row-k.true;
      carried = c.if-row-k.true;
    }

pub offset_bounds-row-at : goal.offset_bounds-row-at
offset_bounds-row-at c = let p = c.requires.least in record { fits = omega (arith, (site_chosen _ _ _ _ _ p.0 p.1 _ c.best_site-best.ensures.at_is).0, c.args.sending.carriable.few) }

pub bounds-row-at : goal.bounds-row-at
bounds-row-at c = let p = c.requires.least in omega (arith, (site_chosen _ _ _ _ _ p.0 p.1 _ c.best_site-best.ensures.at_is).0, c.args.sending.carriable.few)

pub overflow_sub-result : goal.overflow_sub-result
overflow_sub-result c = let p = c.requires.least in (site_chosen _ _ _ _ _ p.0 p.1 _ c.best_site-best.ensures.at_is).1

pub returns : goal.returns
returns c =
    let p = c.requires.least in
    let chosen = site_chosen _ _ _ _ _ p.0 p.1 _ c.best_site-best.ensures.at_is in
    record { at_is = c.best_site-best.ensures.at_is; carried = omega (arith, chosen.1) }
