-- Queries: what a request for position t shows the two hosts, with the tape digits z.
use Rattle.std.specs.Prelude.{ℕ, ◌+◌, ◌%◌, List}
use Rattle.digits.specs.Rows.{at, row}
use Rattle.digits.specs.Sums.{product}
use Rattle.family.specs.Vectors.{Vectors}

-- The first query is z itself; the second is z + v(t), digit by digit.
unfoldable pub second_query : Vectors → ℕ → List ℕ → List ℕ
second_query f t z = row f.dim (λ c. (at z c + f.v t c) % 6)

-- the shift that the request keeps: the product of u(t) and z
abbrev pub shift : Vectors → ℕ → List ℕ → ℕ
shift f t z = product f.dim (f.u t) (at z)
