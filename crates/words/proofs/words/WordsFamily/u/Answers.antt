use Rattle.std.proofs.Common.{sym, ◌∙◌, arith}
use Rattle.words.specs.Matching.{digit_past}
use Rattle.words.proofs.Telling.{u_told}
use Rattle.words.proofs.words.WordsFamily.u.Goals as goal

pub returns-then-i-self : goal.returns-then-i-self
returns-then-i-self c =
    u_told c.args.self.now.letters c.args.self.now.alphabet c.args.i (omega (arith, c.args.self.now.choice)) _
    (c.deref.ensures.0 ∙ c.own.ensures) c.args.c c.contains.result c.from.result c.contains.ensures.cases
    (λ e. rw e at c.from.ensures) (λ e. rw e at c.from.ensures)

pub returns-else-i-self : goal.returns-else-i-self
returns-else-i-self c =
    let w = c.args.self.now in
    sym (digit_past w.letters w.alphabet (λ s. 1) c.args.i c.args.c (omega (arith, w.counted)))
