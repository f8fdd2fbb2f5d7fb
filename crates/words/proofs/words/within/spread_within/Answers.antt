use Rattle.std.proofs.Common.{◌∙◌, arith}
use Rattle.words.proofs.Spreading.{spread_all}
use Rattle.words.proofs.words.within.spread_within.Goals as goal

pub returns : goal.returns
returns c h q t pos is =
    let items = c.deref-c-items.ensures.0 ∙ is in
    spread_all h q t pos _ items c.args.amount c.args.e c.args.elements.now c.loop-c.c-index c.loop-c.elements (omega arith) c.loop-c.auto.elements
    (c.loop-c.invariant h q t pos items)
