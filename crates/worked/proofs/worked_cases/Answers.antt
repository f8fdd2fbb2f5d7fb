use Rattle.worked.proofs.WorkedNumbers.{worked}
use Rattle.worked.proofs.worked_cases.Goals as goal

pub returns : goal.returns
returns c = worked
