-- What is written, and the lines of what is left, are those of the whole row.
use Rattle.std.proofs.Common.{◌≡◌, ℕ, List, ◌++◌}
use Rattle.std.specs.Fmt.{HasWritten, IsPlainFormatter}
use Rattle.std.specs.Slice.Iter.{chunks_rest, chunks_size}
use denote.Text.{Utf8}
use denote.Shadow.{shadow}
use Rattle.working.specs.Layout.{lines_text, line_count, block_text}
use Rattle.working.proofs.blocks.BlockDisplay.fmt.Given as goal

abbrev pub invariant-loop-digits : goal.invariant-loop-digits
invariant-loop-digits g l =
    (goal.iterator-loop-digits g).can_next l.digits-iterator
    × (goal.iterator-loop-digits g).is_finite l.digits-iterator
    × shadow (Utf8 l.name)
    × (chunks_size l.digits-iterator ≡ 30)
    × (IsPlainFormatter l.initial.f → (done : List ℕ) × HasWritten g.W.Write.write_str_gives l.initial.f done l.f
    × (done ++ lines_text l.name (line_count (chunks_rest l.digits-iterator)) (chunks_rest l.digits-iterator)
    ≡ block_text l.fn.self.0.now l.fn.self.1.now))
