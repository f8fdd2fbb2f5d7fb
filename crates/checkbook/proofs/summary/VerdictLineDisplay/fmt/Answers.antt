use Rattle.checkbook.proofs.summary.VerdictLineDisplay.fmt.Goals as goal

pub returns-in-Err-clause-writes : goal.returns-in-Err-clause-writes
returns-in-Err-clause-writes g c = rw c.in-Err.is c.writeln-in-Err.ensures.writes
