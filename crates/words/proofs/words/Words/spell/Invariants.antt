-- The letters from a place on are written.
use Rattle.std.proofs.Common.{◌≡◌, length}
use Rattle.words.proofs.Lettering.{Written}
use Rattle.words.proofs.words.Words.spell.Given as goal

abbrev pub invariant-loop-place : goal.invariant-loop-place
invariant-loop-place g l = (length l.word ≡ g.row.H) × Written l.self.letters l.self.alphabet l.t l.place l.word l.rest
