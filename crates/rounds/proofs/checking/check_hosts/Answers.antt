-- Answers that the check would find too, but of a wrong test it would search to its limits for each: fewer lemmas are enough.
use Rattle.std.proofs.Common.{rules}
use Rattle.rounds.proofs.checking.check_hosts.Goals as goal

pub returns : goal.returns
returns g c = search rules fits 100

pub returns-in_err-check_equal : goal.returns-in_err-check_equal
returns-in_err-check_equal g c = search rules fits 100
