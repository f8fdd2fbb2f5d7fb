-- The vectors that a book holds: u in its first section and v in its second, position by position.
use Rattle.std.specs.Prelude.{ℕ, ◌+◌, ◌*◌, List}
use Rattle.digits.specs.Rows.{at}
use Rattle.family.specs.Vectors.{Vectors, within}
use Rattle.books.specs.Numbers.{dimension_of, count_of, second_of}

-- digit c of the vector at position i, in the section whose digits begin at a place
abbrev pub digit_from : ℕ → List ℕ → ℕ → ℕ → ℕ
digit_from start bs = within (count_of bs) (dimension_of bs) (λ i c. at bs (start + i * dimension_of bs + c))

abbrev pub book_vectors : List ℕ → Vectors
book_vectors bs =
    record { count = count_of bs; dim = dimension_of bs; u = digit_from 6 bs; v = digit_from (second_of bs) bs }
