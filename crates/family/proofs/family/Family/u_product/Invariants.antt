-- The products of the coordinates so far, summed modulo 6.
use Rattle.std.proofs.Common.{◌≡◌}
use Rattle.digits.specs.Rows.{at}
use Rattle.digits.specs.Sums.{product}
use Rattle.family.proofs.family.Family.u_product.Given as goal

abbrev pub invariant-loop-c : goal.invariant-loop-c
invariant-loop-c g l = l.sum ≡ product l.c ((g.Self.Family.vectors l.self).u l.i) (at l.digit-items)
