use Rattle.std.proofs.Common.{sym, rules}
use Rattle.scheme.specs.Runs.{more}
use Rattle.turns.proofs.Chains.{two_calls, same_lengths, same_queries}
use Rattle.turns.proofs.again.Goals as goal

pub returns-in-Ok : goal.returns-in-Ok
returns-in-Ok g c =
    let asked = c.in_ok-waiting.ensures in
    more (same_queries asked.cases.1 asked.cases.2 asked.step)
    (more c.recover-ready.ensures.step
    (two_calls (same_lengths c.request.auto.first c.request.auto.second c.in-Ok.ensures.step) (search rules)))

pub returns-in-Err : goal.returns-in-Err
returns-in-Err g c =
    let kept = c.in-Err.ensures.cases in
    more (same_queries (sym kept.2) (sym kept.3) c.in_ok-waiting.ensures.step)
    (two_calls c.recover-ready.ensures.step (same_lengths c.request.auto.first c.request.auto.second c.in-Err.ensures.step))
