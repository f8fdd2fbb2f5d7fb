-- Answers that the check would find too, but of a wrong query it would search to its limits for each: fewer lemmas are enough.
use Rattle.std.proofs.Common.{rules}
use Rattle.turns.proofs.first.ask_both.Goals as goal

pub returns-clause-fault : goal.returns-clause-fault
returns-clause-fault g c = search rules fits 100

pub returns-clause-sheets : goal.returns-clause-sheets
returns-clause-sheets g c = search rules fits 100
