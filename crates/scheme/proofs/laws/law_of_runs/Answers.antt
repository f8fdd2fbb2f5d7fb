use Rattle.scheme.proofs.Recovering.{recovering}
use Rattle.scheme.proofs.Hiding.{hiding}
use Rattle.scheme.proofs.laws.law_of_runs.Goals as goal

pub returns : goal.returns
returns c = λ f. (recovering f, hiding f)
