-- Answers that the check would find too, but of a wrong order it would search to its limits for each: fewer lemmas are enough.
use Rattle.std.proofs.Common.{rules}
use Rattle.rounds.proofs.checking.check_rows.Goals as goal

pub returns-in_err-check_length-2 : goal.returns-in_err-check_length-2
returns-in_err-check_length-2 g c = search rules fits 100

pub returns-in_err-check_length-3 : goal.returns-in_err-check_length-3
returns-in_err-check_length-3 g c = search rules fits 100

pub returns : goal.returns
returns g c = search rules fits 100
