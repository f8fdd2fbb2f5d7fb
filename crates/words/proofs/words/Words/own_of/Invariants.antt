-- The own coordinates are those found so far and those of the sets of places that are left.
use Rattle.std.proofs.Common.{◌+◌}
use Rattle.words.proofs.Finding.{Left, singles_from, pairs_from, pairs_with}
use Rattle.words.proofs.words.Words.own_of.Given as goal

abbrev pub invariant-loop-letter : goal.invariant-loop-letter
invariant-loop-letter g l = Left l.self.letters l.self.alphabet l.t l.own.items l.block (singles_from l.self.letters l.letter-index)

abbrev pub invariant-loop-place : goal.invariant-loop-place
invariant-loop-place g l = Left l.self.letters l.self.alphabet l.t l.own.items l.block (pairs_from l.self.letters l.place)

abbrev pub invariant-loop-second : goal.invariant-loop-second
invariant-loop-second g l =
    Left l.self.letters l.self.alphabet l.t l.own.items l.block (pairs_with l.self.letters l.place (l.place + 1 + l.second-index))
