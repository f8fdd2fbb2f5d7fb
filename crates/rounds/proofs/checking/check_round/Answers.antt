-- Answers that the check would find too, but of a wrong order it would search to its limits for each: fewer lemmas are enough.
use Rattle.std.proofs.Common.{rules}
use Rattle.rounds.proofs.checking.check_round.Goals as goal

pub returns-in_err-check_family : goal.returns-in_err-check_family
returns-in_err-check_family g c = search rules fits 100

pub returns-in_err-check_hosts : goal.returns-in_err-check_hosts
returns-in_err-check_hosts g c = search rules fits 100

pub returns-in_err-check_rows : goal.returns-in_err-check_rows
returns-in_err-check_rows g c = search rules fits 100

pub returns : goal.returns
returns g c = search rules fits 100
