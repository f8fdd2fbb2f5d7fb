use Rattle.turns.proofs.Chains.{two_calls}
use Rattle.turns.proofs.look_up.Goals as goal

pub returns : goal.returns
returns g c = two_calls c.in_ok-waiting.ensures.step c.recover.ensures.step
