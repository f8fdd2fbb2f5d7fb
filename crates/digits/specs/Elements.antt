-- Elements: six digits e0 .. e5 that stand for e0 + e1 g + .. + e5 g^5, where g^6 = 1.
use Rattle.std.specs.Prelude.{ℕ, ◌+◌, ◌*◌, ◌%◌, Bool, ◌&&◌, List, ◌==◌}
use Rattle.digits.specs.Rows.{at, row}
use Rattle.digits.specs.Sums.{total, same}

abbrev pub zero_element : List ℕ
zero_element = row 6 (λ r. 0)

-- a times g to the power s
abbrev pub power : ℕ → ℕ → List ℕ
power a s = row 6 (λ r. a * same (s % 6) r % 6)

abbrev pub plus : List ℕ → List ℕ → List ℕ
plus e f = row 6 (λ r. (at e r + at f r) % 6)

-- digit r of a product: the sum of all e(i) f(j) where i + j leaves r modulo 6
unfoldable pub times_digit : List ℕ → List ℕ → ℕ → ℕ
times_digit e f r = total 6 (λ i. total 6 (λ j. at e i * at f j * same ((i + j) % 6) r)) % 6

abbrev pub times : List ℕ → List ℕ → List ℕ
times e f = row 6 (times_digit e f)

-- every digit times a number
abbrev pub scaled : ℕ → List ℕ → List ℕ
scaled a e = row 6 (λ r. a * at e r % 6)

-- e divided by the power s of g: digit r is digit r + s of e
abbrev pub turned : ℕ → List ℕ → List ℕ
turned s e = row 6 (λ r. at e ((r + s) % 6))

-- the element of the six numbers of a row from a place on, each taken modulo 6; past the row's end they are 0
abbrev pub element_at : List ℕ → ℕ → List ℕ
element_at xs place = row 6 (λ r. at xs (place + r) % 6)

-- whether two elements have the same six digits
abbrev pub same_element : List ℕ → List ℕ → Bool
same_element e f =
    (at e 0 == at f 0)
    && (at e 1 == at f 1 && (at e 2 == at f 2 && (at e 3 == at f 3 && (at e 4 == at f 4 && at e 5 == at f 5))))
