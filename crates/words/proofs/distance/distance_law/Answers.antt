use Rattle.words.proofs.FamilyNumbers.{squared}
use Rattle.words.proofs.distance.distance_law.Goals as goal

pub returns : goal.returns
returns c = squared
