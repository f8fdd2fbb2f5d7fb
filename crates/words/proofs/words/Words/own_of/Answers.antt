use Rattle.std.proofs.Common.{◌+◌, ◌^◌, [], ◌∷◌, ◌++◌, sym, refl, ap, ◌∙◌, arith}
use Rattle.std.proofs.lemmas.Bool.{lt-ltb, cond-true}
use Rattle.words.proofs.Finding.{left_all, single_step, pairs_next, pair_step, left_none}
use Rattle.words.proofs.words.Words.own_of.Goals as goal

pub loop-letter-init : goal.loop-letter-init
loop-letter-init g c = left_all (c.push.ensures.items ∙ ap (λ xs. xs ++ (0 ∷ [])) c.new-own.ensures) refl

pub push-requires-in-loop-letter : goal.push-requires-in-loop-letter
push-requires-in-loop-letter g c =
    let step = single_step c.args.self.now _ c.spell-letters.ensures c.loop-letter.letter-index (omega arith) c.loop-letter.invariant in
    (omega arith, step.room)

pub loop-letter-preserved : goal.loop-letter-preserved
loop-letter-preserved g c =
    let step = single_step c.args.self.now _ c.spell-letters.ensures c.loop-letter.letter-index (omega arith) c.loop-letter.invariant in
    rw (c.push-in-loop-letter.ensures.items, c.from.ensures) step.left

pub loop-second-init : goal.loop-second-init
loop-second-init g c =
    pairs_next _ c.spell-letters.ensures c.loop-place.place (c.loop-place.place + 1 + 0) (omega arith) (omega arith)
    c.loop-place.invariant

pub push-requires-in-loop-second : goal.push-requires-in-loop-second
push-requires-in-loop-second g c =
    let step = pair_step c.args.self.now _ c.spell-letters.ensures c.loop-place.place c.loop-second.second-index (omega arith) (omega arith) c.loop-second.invariant in
    (omega arith, step.room)

pub loop-second-preserved : goal.loop-second-preserved
loop-second-preserved g c =
    let step = pair_step c.args.self.now _ c.spell-letters.ensures c.loop-place.place c.loop-second.second-index (omega arith) (omega arith) c.loop-second.invariant in
    rw (c.push-in-loop-second.ensures.items, c.from-in-loop-second.ensures, c.from-in-loop-second-2.ensures) step.left

pub returns : goal.returns
returns g c =
    left_none _ c.spell-letters.ensures c.loop-place.place (omega arith) c.loop-place.invariant
    ∙ sym (cond-true _ _ _ (lt-ltb c.args.t (c.args.self.now.alphabet ^ c.args.self.now.letters) (omega arith)))
