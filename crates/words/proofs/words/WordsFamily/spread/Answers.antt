use Rattle.std.proofs.Common.{arith}
use Rattle.family.specs.Spreads.{spread_nothing}
use Rattle.words.specs.Matching.{digit_past}
use Rattle.words.proofs.words.WordsFamily.spread.Goals as goal

pub returns-then-i-self : goal.returns-then-i-self
returns-then-i-self c =
    let w = c.args.self.now in
    spread_nothing _ c.args.amount c.args.e _
    (λ k. digit_past w.letters w.alphabet (λ s. 1) c.args.i k (omega (arith, w.counted)))
