-- What is written is the lines of the elements so far.
use Rattle.std.specs.Fmt.{HasWritten, IsPlainFormatter}
use Rattle.working.specs.Layout.{elements_text}
use Rattle.working.proofs.text.ElementsDisplay.fmt.Given as goal

abbrev pub invariant-loop-coordinate : goal.invariant-loop-coordinate
invariant-loop-coordinate g l =
    IsPlainFormatter l.initial.f → HasWritten g.W.Write.write_str_gives l.initial.f (elements_text l.sheet l.coordinate) l.f
