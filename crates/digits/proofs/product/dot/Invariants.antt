-- What is left of both rows tells the rest of the sum.
use Rattle.std.proofs.Common.{◌≡◌, ◌+◌, ◌<◌, ◌%◌, length}
use Rattle.digits.specs.Rows.{at}
use Rattle.digits.specs.Sums.{product}
use Rattle.digits.proofs.Zips.{zipped}
use Rattle.digits.proofs.product.dot.Given as goal

abbrev pub invariant-loop-x : goal.invariant-loop-x
invariant-loop-x l =
    ((l.sum + zipped l.x-iterator.a.rest.now l.x-iterator.b.rest.now) % 6 ≡ product (length l.a) (at l.a) (at l.b))
    × (l.sum < 6)
    × (l.x-iterator.a.size ≡ 4096)
    × (l.x-iterator.b.size ≡ 4096)
