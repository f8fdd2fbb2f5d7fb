-- The ring of elements in its own terms: its 1, powers, sums and products of many, and the determinant of a matrix.
use Rattle.std.specs.Prelude.{ℕ, zero, suc, ◌+◌, ◌%◌, cond, List, ◌==◌, nat_lt}
use Rattle.digits.specs.Elements.{zero_element, power, plus, times, scaled}

-- the 1 of the ring
abbrev pub one_element : List ℕ
one_element = power 1 0

-- the element that all are polynomials in
abbrev pub g : List ℕ
g = power 1 1

-- e multiplied by itself so many times
unfoldable pub to_the : List ℕ → ℕ → List ℕ
to_the e zero = one_element
to_the e (suc n) = times (to_the e n) e

-- e 0 + e 1 + .. + e (n - 1)
unfoldable pub sum_of : ℕ → (ℕ → List ℕ) → List ℕ
sum_of zero e = zero_element
sum_of (suc n) e = plus (sum_of n e) (e n)

-- e 0 times e 1 times .. times e (n - 1)
unfoldable pub product_of : ℕ → (ℕ → List ℕ) → List ℕ
product_of zero e = one_element
product_of (suc n) e = times (product_of n e) (e n)

-- the sign of place j in an expansion: minus where j is odd (and minus 1 is 5)
abbrev pub signed : ℕ → List ℕ → List ℕ
signed j e = cond (j % 2 == 0) e (scaled 5 e)

-- a matrix, told by row and column, without row y and column j (the usual word is a minor's matrix)
abbrev pub without : ℕ → ℕ → (ℕ → ℕ → List ℕ) → ℕ → ℕ → List ℕ
without y j m r c = m (cond (nat_lt r y) r (suc r)) (cond (nat_lt c j) c (suc c))

-- the determinant of a matrix of n rows and columns, expanded along its first row
unfoldable pub determinant : ℕ → (ℕ → ℕ → List ℕ) → List ℕ
determinant zero m = one_element
determinant (suc n) m = sum_of (suc n) (λ j. signed j (times (m 0 j) (determinant n (without 0 j m))))

-- row j, column y of the adjugate of a matrix of n + 1 rows and columns
abbrev pub adjugate : ℕ → (ℕ → ℕ → List ℕ) → ℕ → ℕ → List ℕ
adjugate n m j y = signed (j + y) (determinant n (without y j m))
