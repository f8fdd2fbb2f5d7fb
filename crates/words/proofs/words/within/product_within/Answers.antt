use Rattle.std.proofs.Common.{rules, length, ap, arith}
use Rattle.std.proofs.lemmas.Iterator.{YieldsList-from_slice}
use Rattle.std.proofs.lemmas.Iterator.Adapters.{serves_from_places}
use Rattle.std.proofs.lemmas.Iterator.Consumers.{YieldsList-at}
use Rattle.std.proofs.lemmas.List.{get_or_default}
use Rattle.words.proofs.words.within.product_within.Goals as goal

-- each coordinate is that of a place in `own`, and so within the row
pub sum-sum-requires-clause-can : goal.sum-sum-requires-clause-can
sum-sum-requires-clause-can c = (
  tt,
  serves_from_places (YieldsList-at c.map.ensures.source (YieldsList-from_slice _ c.iter.ensures.rest)) (λ x q r. search rules)
      (λ x k b e.
      let told = get_or_default c.deref.result.now k x.now 0 b in
      let inside = c.requires k (omega (arith, ap length c.deref.ensures.0)) in
      search rules),
)
