-- The coordinates so far are summed.
use Rattle.std.proofs.Common.{◌≡◌}
use Rattle.family.specs.ElementProducts.{element_product}
use Rattle.family.proofs.family.Family.v_product.Given as goal

abbrev pub invariant-loop-c : goal.invariant-loop-c
invariant-loop-c g l = l.sum.digits ≡ element_product l.c ((g.Self.Family.vectors l.self).v l.i) l.elements
