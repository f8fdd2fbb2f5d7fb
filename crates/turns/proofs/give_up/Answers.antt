use Rattle.std.proofs.Common.{rules}
use Rattle.turns.proofs.Chains.{one_call, two_calls}
use Rattle.turns.proofs.give_up.Goals as goal

-- Found without an answer too, but of a wrong request it would be searched to the limits.
pub returns-in_err-lookup : goal.returns-in_err-lookup
returns-in_err-lookup g c =
    let run = one_call c.in_err-lookup.ensures.step in
    let kept = c.in_err-lookup.ensures.cases in
    search rules fits 100

pub returns : goal.returns
returns g c = two_calls c.in_ok-lookup.ensures.step c.abandon.ensures.step
