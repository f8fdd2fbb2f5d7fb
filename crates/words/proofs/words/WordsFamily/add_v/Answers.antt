use Rattle.std.proofs.Common.{◌≡◌, ◌∙◌, arith}
use Rattle.words.proofs.Adding.{reached_more, reached_past}
use Rattle.words.proofs.words.WordsFamily.add_v.Goals as goal
use Rattle.words.proofs.words.WordsFamily.add_v.Goals.{then-d-ne0, else-d-ne0}

pub loop-c-preserved : goal.loop-c-preserved
loop-c-preserved c =
    let w = c.args.self.now in
    let k = c.loop-c.c-index in
    let items = c.deref-c-items.ensures.0 ∙ c.own-own.ensures in
    elim c.if-d-ne0.branch [
      | then-d-ne0 b ↦
          let whole : b.from.result ≡ c.weight-d.result = cc in
          rw (b.row-is ∙ b.add_at.ensures, whole)
          (reached_more w.letters w.alphabet c.args.i (omega (arith, w.choice)) _ items c.args.row.now c.loop-c.row k c.weight-d.result (omega arith) c.weight-d.ensures
          c.loop-c.invariant c.loop-c.auto.row (omega arith))
      | else-d-ne0 b ↦
          rw b.row-is
          (reached_past w.letters w.alphabet c.args.i (omega (arith, w.choice)) _ items c.args.row.now c.loop-c.row k c.weight-d.result (omega arith) c.weight-d.ensures
          c.loop-c.invariant (omega arith))
    ]
