-- The own coordinates so far are added to, and every other place is as it was.
use Rattle.words.specs.Words.{weight, word_digit}
use Rattle.words.proofs.Adding.{Reached}
use Rattle.words.proofs.words.WordsFamily.add_v.Given as goal

abbrev pub invariant-loop-c : goal.invariant-loop-c
invariant-loop-c l =
    Reached (word_digit l.self.letters l.self.alphabet (weight l.self.letters) l.i) l.c-items l.c-index l.initial.row l.row
