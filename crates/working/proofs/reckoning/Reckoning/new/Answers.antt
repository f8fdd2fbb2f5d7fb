use Rattle.std.proofs.Common.{rules}
use Rattle.working.proofs.Steps.{in_steps}
use Rattle.working.proofs.reckoning.Reckoning.new.Goals as goal

pub returns : goal.returns
returns g c =
    in_steps _ _ _ _ _ _ _ _ _ _ _ _ c.value-y1.ensures c.slope-y2.ensures c.value-y3.ensures c.slope-y4.ensures c.weighed-w.ensures c.turned.ensures.value (search rules)
