-- The number is written with spaces up to 5 places, so that the name fills 15.
use Rattle.std.proofs.Common.{arith}
use Rattle.std.proofs.Output.{has_written_of_eq}
use Rattle.working.proofs.Filling.{element_line}
use Rattle.working.proofs.blocks.CoordinateDisplay.fmt.Goals as goal

pub returns-clause-writes : goal.returns-clause-writes
returns-clause-writes g c = λ plain ok.
    has_written_of_eq _ _ _ _ _
    (rw c.laid_out.ensures (rw c.from-digits.ensures (element_line c.args.self.now.0 c.args.self.now.1.digits (omega arith))))
    (c.writeln.ensures.writes plain ok)
