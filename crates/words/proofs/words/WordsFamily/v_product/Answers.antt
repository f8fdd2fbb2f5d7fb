use Rattle.std.proofs.Common.{◌≡◌, ℕ, ◌*◌, List, length, ap, ◌∙◌, arith}
use Rattle.digits.specs.Elements.{scaled, element_at}
use Rattle.digits.specs.Rows.{at}
use Rattle.digits.specs.Ring.{sum_of}
use Rattle.digits.proofs.RingSums.{sum_start, sum_more}
use Rattle.words.specs.Words.{weight, size_at}
use Rattle.words.proofs.Multiplying.{own_elements}
use Rattle.words.proofs.words.WordsFamily.v_product.Goals as goal

pub loop-c-init : goal.loop-c-init
loop-c-init c = c.zero-sum.ensures ∙ sum_start _

pub loop-c-preserved : goal.loop-c-preserved
loop-c-preserved c =
    let w = c.args.self.now in
    let own : List ℕ = c.deref-c-items.result.now in
    let term : ℕ → List ℕ = λ k. scaled (weight w.letters (size_at w.letters w.alphabet (at own k))) (element_at c.args.elements.now (6 * at own k)) in
    let here : c.scaled.result.digits ≡ term c.loop-c.c-index = cc in
    c.add-sum.ensures ∙ sum_more c.loop-c.c-index term c.loop-c.sum.digits c.scaled.result.digits c.loop-c.invariant here

pub returns : goal.returns
returns c =
    let w = c.args.self.now in
    let own : List ℕ = c.deref-c-items.result.now in
    let term : ℕ → List ℕ = λ k. scaled (weight w.letters (size_at w.letters w.alphabet (at own k))) (element_at c.args.elements.now (6 * at own k)) in
    c.loop-c.invariant
    ∙ ap (λ n. sum_of n term) {x = c.loop-c.c-index} {y = length own} (omega arith)
    ∙ own_elements w.letters w.alphabet c.args.i (omega (arith, w.choice)) own (c.deref-c-items.ensures.0 ∙ c.own-own.ensures)
    (λ k. element_at c.args.elements.now (6 * k))
