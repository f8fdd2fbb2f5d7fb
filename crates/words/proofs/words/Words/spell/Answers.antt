use Rattle.std.proofs.Common.{◌≡◌, ◌-◌, ◌*◌, ◌/◌, ◌%◌, set, sym, ap, ◌∙◌, subst, arith}
use Rattle.std.proofs.Math.Nat.{mod-eq-sub-div-mul}
use Rattle.std.proofs.lemmas.List.{length-set}
use Rattle.words.proofs.Lettering.{Written, written_more}
use Rattle.words.proofs.words.Words.spell.Goals as goal

pub loop-place-preserved : goal.loop-place-preserved
loop-place-preserved g c =
    let w = c.args.self.now in
    let word = c.loop-place.word in
    let rest = c.loop-place.rest in
    let before : c.divided-before.result ≡ rest / w.alphabet = c.divided-before.ensures in
    let letter : rest - c.divided-before.result * w.alphabet ≡ rest % w.alphabet =
    ap (λ b. rest - b * w.alphabet) before ∙ sym (mod-eq-sub-div-mul rest w.alphabet) in (
      length-set word (c.loop-place.place - 1) _ ∙ c.loop-place.invariant.0,
      subst (λ a. Written w.letters w.alphabet c.args.t (c.loop-place.place - 1) (set word (c.loop-place.place - 1) a) c.divided-before.result) (sym letter)
          (subst (Written w.letters w.alphabet c.args.t (c.loop-place.place - 1) (set word (c.loop-place.place - 1) (rest % w.alphabet))) (sym before)
          (written_more w.letters w.alphabet c.args.t c.loop-place.place word rest
          (omega arith) (omega arith) (omega (arith, c.loop-place.invariant.0)) c.loop-place.invariant.1)),
    )
