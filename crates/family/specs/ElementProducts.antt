-- The product of a vector and the elements of all coordinates.
use Rattle.std.specs.Prelude.{ℕ, ◌*◌, List}
use Rattle.digits.specs.Elements.{scaled, element_at}
use Rattle.digits.specs.Ring.{sum_of}

-- the sum of v(c) times the element of c, where the elements of k coordinates stand one after the other
abbrev pub element_product : ℕ → (ℕ → ℕ) → List ℕ → List ℕ
element_product k v elements = sum_of k (λ c. scaled (v c) (element_at elements (6 * c)))
