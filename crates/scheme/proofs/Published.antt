-- The scheme's answers and its recovery are those of the published scheme.
use Rattle.std.proofs.Common.{ℕ, ◌<◌, List}
use Rattle.family.specs.Vectors.{Vectors, MatchingFamily}
use Rattle.scheme.specs.Published.{share, Equations, AsPublished}
use Rattle.scheme.proofs.Equations.{first_value_is, first_slope_is, second_value_is, second_slope_is, own_share_is}
use Rattle.scheme.proofs.Matrix.{side_matrix}
use Rattle.scheme.proofs.Polynomials.{value_polynomial, element_derivative}
use Rattle.scheme.proofs.Shares.{share_element}
use Rattle.scheme.proofs.TwoSheets.{solved_is}
use Rattle.scheme.proofs.Weights.{weights_are, scale_is}

module _ (f : Vectors) (family : MatchingFamily f) (t : ℕ) (h : t < f.count) (a : ℕ → ℕ) (z : List ℕ) where
  equations : Equations f t a z
  equations = record {
    first_value = first_value_is f family t h a z;
    first_slope = first_slope_is f family t h a z;
    second_value = second_value_is f family t h a z;
    second_slope = second_slope_is f family t h a z;
    matrix = side_matrix (share f t a z) (share_element f t a z);
    own_share = own_share_is f family t h a z;
    solved = solved_is f family t h a z;
  }

pub published : AsPublished
published = record { values = value_polynomial; derivatives = element_derivative; recovery = equations; weights = weights_are; scale = scale_is }
