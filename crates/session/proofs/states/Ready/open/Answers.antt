use Rattle.scheme.proofs.Recovering.{recovering}
use Rattle.scheme.proofs.Hiding.{hiding}
use Rattle.session.proofs.states.Ready.open.Goals as goal

pub returns-in_err-check_digits-clause-recovers : goal.returns-in_err-check_digits-clause-recovers
returns-in_err-check_digits-clause-recovers g c = recovering (g.F.Family.vectors c.args.family.now)

pub returns-in_err-check_digits-clause-hides : goal.returns-in_err-check_digits-clause-hides
returns-in_err-check_digits-clause-hides g c = hiding (g.F.Family.vectors c.args.family.now)

pub returns-clause-recovers : goal.returns-clause-recovers
returns-clause-recovers g c = recovering (g.F.Family.vectors c.args.family.now)

pub returns-clause-hides : goal.returns-clause-hides
returns-clause-hides g c = hiding (g.F.Family.vectors c.args.family.now)
