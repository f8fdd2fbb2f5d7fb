use Rattle.std.proofs.Common.{◌≤◌, sym, mul-le-mul, arith}
use Rattle.words.specs.Words.{size_at, weight}
use Rattle.words.specs.Limits.{weight_lt}
use Rattle.words.specs.Matching.{digit_past}
use Rattle.words.specs.WordFamily.{digit_lt}
use Rattle.words.proofs.words.WordsFamily.v.Goals as goal

pub returns-then-i-self : goal.returns-then-i-self
returns-then-i-self c =
    let w = c.args.self.now in
    sym (digit_past w.letters w.alphabet (weight w.letters) c.args.i c.args.c (omega (arith, w.counted)))

pub overflow_mul-result : goal.overflow_mul-result
overflow_mul-result c =
    let told =
    digit_lt c.args.self.now.letters c.args.self.now.alphabet c.args.self.now.short c.args.self.now.choice c.args.self.now.few
    (λ s. 1) (λ s. omega arith) c.args.i c.args.c in
    let digit : c.u.result ≤ 5 = omega (arith, c.u.ensures, told) in
    let heavy : c.weight.result ≤ 5 = omega (arith, c.weight.ensures, weight_lt c.args.self.now.letters (size_at c.args.self.now.letters c.args.self.now.alphabet c.args.c)) in
    omega (arith, mul-le-mul digit heavy)
