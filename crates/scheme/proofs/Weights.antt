-- The weights of recovery are the first row of the matrix's adjugate, and D is its determinant: the checker reckons it out.
use Rattle.std.proofs.Common.{◌≡◌, refl}
use Rattle.digits.specs.Elements.{times_digit}
use Rattle.digits.specs.Sums.{total}
use Rattle.digits.specs.Ring.{to_the, sum_of, determinant, adjugate}
use Rattle.scheme.specs.Recovery.{C1, C2, C3, C4, D}
use Rattle.scheme.specs.Published.{coefficient}

pub weights_are : (C1 ≡ adjugate 3 coefficient 0 0) × (C2 ≡ adjugate 3 coefficient 0 1) × (C3 ≡ adjugate 3 coefficient 0 2) × (C4 ≡ adjugate 3 coefficient 0 3)
unfolding total times_digit to_the sum_of determinant
weights_are = (refl, refl, refl, refl)

pub scale_is : D ≡ determinant 4 coefficient
unfolding total times_digit to_the sum_of determinant
scale_is = refl
