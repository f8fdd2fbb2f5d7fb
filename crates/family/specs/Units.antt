-- The unit family: u(i) is 1 at coordinate i and 0 elsewhere, v(i) is 0 at coordinate i and 1 elsewhere.
use Rattle.std.specs.Prelude.{ℕ, cond, ◌==◌}
use Rattle.digits.specs.Sums.{same}
use Rattle.family.specs.Vectors.{Vectors, within}

abbrev pub unit_vectors : ℕ → Vectors
unit_vectors n = record { count = n; dim = n; u = within n n same; v = within n n (λ i c. cond (i == c) 0 1) }
