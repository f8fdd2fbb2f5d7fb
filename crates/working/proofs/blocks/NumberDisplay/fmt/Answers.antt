-- The name is written with spaces up to 15 places.
use Rattle.std.proofs.Common.{arith}
use Rattle.std.proofs.Output.{has_written_of_eq}
use Rattle.working.proofs.Filling.{number_line}
use Rattle.working.proofs.blocks.NumberDisplay.fmt.Goals as goal

pub returns-clause-writes : goal.returns-clause-writes
returns-clause-writes g c = λ plain ok.
    has_written_of_eq _ _ _ _ _
    (rw c.laid_out.ensures (number_line c.args.self.now.0.now c.args.self.now.1 (omega arith)))
    (c.writeln.ensures.writes plain ok)
