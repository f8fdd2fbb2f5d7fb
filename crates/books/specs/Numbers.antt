-- The numbers of a book, and where its sections stand.
use Rattle.std.specs.Prelude.{ℕ, zero, suc, ◌+◌, ◌*◌, List, drop}
use Rattle.digits.specs.Rows.{at}

-- the number that so many bytes write at the front of a row, the most significant first
unfoldable pub big_endian : ℕ → List ℕ → ℕ
big_endian zero bs = 0
big_endian (suc len) bs = big_endian len bs * 256 + at bs len

-- the dimension, in the first 2 bytes
abbrev pub dimension_of : List ℕ → ℕ
dimension_of bs = big_endian 2 bs

-- the count of positions, in the 4 bytes after it
abbrev pub count_of : List ℕ → ℕ
count_of bs = big_endian 4 (drop 2 bs)

-- how many digits each of the two sections has
abbrev pub size_of : List ℕ → ℕ
size_of bs = count_of bs * dimension_of bs

-- where the digits of the second section begin; those of the first begin at 6
abbrev pub second_of : List ℕ → ℕ
second_of bs = 10 + size_of bs
