-- Rows of digits.
use Rattle.std.specs.Prelude.{ℕ, ◌<◌, ◌%◌, List, length, map, nat_lt, slice_index}
use Rattle.std.specs.List.{range_with_len, prefix_len}

-- the digit at a place; past the end it is 0
abbrev pub at : List ℕ → ℕ → ℕ
at xs i = slice_index xs i

-- the row f 0, f 1, .. f (n - 1)
abbrev pub row : ℕ → (ℕ → ℕ) → List ℕ
row n f = map f (range_with_len 0 n)

-- each byte of a row, taken modulo 6
abbrev pub reduced : List ℕ → List ℕ
reduced xs = row (length xs) (λ i. at xs i % 6)

-- each byte of the row is a digit, a number from 0 to 5
abbrev pub Digits : List ℕ → Type 0
Digits xs = (i : ℕ) → at xs i < 6

-- the place of the first byte above 5, or the row's length
abbrev pub first_above : List ℕ → ℕ
first_above xs = prefix_len (λ x. nat_lt x 6) xs
