-- The own coordinates so far are summed.
use Rattle.std.proofs.Common.{◌≡◌, ◌*◌}
use Rattle.digits.specs.Elements.{scaled, element_at}
use Rattle.digits.specs.Rows.{at}
use Rattle.digits.specs.Ring.{sum_of}
use Rattle.words.specs.Words.{weight, size_at}
use Rattle.words.proofs.words.WordsFamily.v_product.Given as goal

abbrev pub invariant-loop-c : goal.invariant-loop-c
invariant-loop-c l =
    l.sum.digits
    ≡ sum_of l.c-index
    (λ k. scaled (weight l.self.letters (size_at l.self.letters l.self.alphabet (at l.c-items k))) (element_at l.elements (6 * at l.c-items k)))
