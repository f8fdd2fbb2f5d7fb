-- What was read is replied to like what the input says.
use Rattle.std.proofs.Common.{arith}
use Rattle.std.proofs.lemmas.Grind.{common_steps}
use Rattle.inquiry.proofs.Alike.{replied_alike}
use Rattle.inquiry.proofs.answering.ask.Goals as goal

pub returns : goal.returns
returns g c =
    let alike = replied_alike g.T.Tells.tells _ _ c.in_ok-inquiry.ensures in
    grind (arith, common_steps)
