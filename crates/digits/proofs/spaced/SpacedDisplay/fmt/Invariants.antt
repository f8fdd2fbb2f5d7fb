-- What is written is the digits so far, with a space before each.
use Rattle.std.proofs.Common.{take}
use Rattle.std.specs.Fmt.{HasWritten, IsPlainFormatter}
use Rattle.faults.specs.Text.{spaced}
use Rattle.digits.proofs.spaced.SpacedDisplay.fmt.Given as goal

abbrev pub invariant-loop-digit : goal.invariant-loop-digit
invariant-loop-digit g l =
    IsPlainFormatter l.initial.f →
    HasWritten g.W.Write.write_str_gives l.initial.f (spaced (take l.digit-index l.digit-items)) l.f
