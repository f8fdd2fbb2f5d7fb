-- Each turn of the loop writes the line of one element more.
use Rattle.std.proofs.Common.{[], rules}
use Rattle.std.specs.Fmt.{HasWritten}
use Rattle.std.proofs.Output.{has_written_append, has_written_of_eq}
use Rattle.scheme.specs.Recovery.{element_of}
use Rattle.working.specs.Layout.{element_text}
use Rattle.working.proofs.Lining.{no_element, element_more}
use Rattle.working.proofs.text.ElementsDisplay.fmt.Goals as goal

pub loop-coordinate-init : goal.loop-coordinate-init
loop-coordinate-init g c = λ plain.
    let nothing : HasWritten g.W.Write.write_str_gives c.args.f.now [] c.args.f.now = search rules in
    has_written_of_eq _ _ _ _ _ (no_element c.args.self.now.0.now) nothing

pub loop-coordinate-preserved : goal.loop-coordinate-preserved
loop-coordinate-preserved g c = λ plain.
    let sheet = c.args.self.now.0.now in
    let coordinate = c.loop-coordinate.coordinate in
    let one : HasWritten g.W.Write.write_str_gives c.loop-coordinate.f (element_text coordinate (element_of sheet coordinate)) c.write.new.self =
    search rules in
    has_written_of_eq _ _ _ _ _ (element_more sheet coordinate) (has_written_append _ _ _ _ _ _ (c.loop-coordinate.invariant plain) one)
