-- The products of a book's rows, and whether they are allowed.
use Rattle.std.specs.Prelude.{◌≡◌, ℕ, cond, List, length, nat_lt, refl}
use Rattle.std.proofs.Common.{ap}
use Rattle.digits.specs.Rows.{at}
use Rattle.digits.specs.Sums.{product}
use Rattle.digits.proofs.Sums.{product_cong}
use Rattle.family.specs.Vectors.{allowed}
use Rattle.books.specs.BookVectors.{book_vectors}
use Rattle.books.specs.Numbers.{dimension_of, count_of}
use Rattle.books.specs.Pairs.{fits}
use Rattle.books.specs.Telling.{vector_product}

-- a row that holds u(i), or is empty past the last position, has the products of u(i)
pub u_times : (bs : List ℕ) (n k i : ℕ) (x y : List ℕ) → n ≡ count_of bs → k ≡ dimension_of bs →
    ((c : ℕ) → at x c ≡ (book_vectors bs).u i c) → length x ≡ cond (nat_lt i n) k 0 →
    product (length x) (at x) (at y) ≡ product (dimension_of bs) ((book_vectors bs).u i) (at y)
u_times bs n k i x y counted wide digits long = vector_product bs 6 n k i counted wide x digits long (at y)

-- a row that has v(j)'s digits tells whether i and j fit
pub fits_by_row : (bs : List ℕ) (i j : ℕ) (y : List ℕ) → ((c : ℕ) → at y c ≡ (book_vectors bs).v j c) →
    allowed i j (product (dimension_of bs) ((book_vectors bs).u i) (at y)) ≡ fits (book_vectors bs) i j
fits_by_row bs i j y there =
    ap (allowed i j) (product_cong (dimension_of bs) ((book_vectors bs).u i) (at y) ((book_vectors bs).u i) ((book_vectors bs).v j) (λ c l. refl) (λ c l. there c))
