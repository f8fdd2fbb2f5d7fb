use Rattle.std.proofs.Common.{◌≡◌, ◌%◌, ◌⊎◌, length, inl, inr, ap, ◌∙◌, arith}
use Rattle.digits.proofs.Zips.{zipped, zipped_total, zipped_done, stretch_more}
use Rattle.digits.proofs.product.dot.Goals as goal

pub returns-then-a-le-STRETCH : goal.returns-then-a-le-STRETCH
returns-then-a-le-STRETCH c = ap (λ s. s % 6) (c.plain_sum.ensures ∙ zipped_total c.args.a.now c.args.b.now)

pub loop-x-init : goal.loop-x-init
loop-x-init c =
    let whole : zipped c.into_iter-x-iterator.result.a.rest.now c.into_iter-x-iterator.result.b.rest.now ≡ zipped c.args.a.now c.args.b.now = cc in
    (omega (arith, whole, zipped_total c.args.a.now c.args.b.now), omega arith, cc, cc)

pub loop-x-preserved : goal.loop-x-preserved
loop-x-preserved c =
    let a = c.in-Some.ensures.steps.0 in
    let b = c.in-Some.ensures.steps.1 in (
      stretch_more 4096 _ _ _ _ _ _ _ _ _ _ c.loop-x.invariant.2 c.loop-x.invariant.3 a.1.0 b.1.0 a.1.1 b.1.1 c.plain_sum-in-loop-x.ensures
          ∙ c.loop-x.invariant.0,
      omega arith,
      omega (arith, a.0),
      omega (arith, b.0),
    )

pub returns : goal.returns
returns c =
    let ended : (length c.loop-x.x-iterator.a.rest.now ≡ 0) ⊎ (length c.loop-x.x-iterator.b.rest.now ≡ 0) =
    elim c.in-None.ensures.steps [ inl u ↦ inl u.1.1.0 | inr u ↦ inr u.1.1.0 ] in
    omega (arith, c.loop-x.invariant.0, zipped_done c.loop-x.x-iterator.a.rest.now c.loop-x.x-iterator.b.rest.now ended)
