-- Where the digits of a book's vectors stand, and the products of its rows.
use Rattle.std.specs.Prelude.{◌≡◌, ℕ, ◌+◌, ◌*◌, ◌<◌, ◌≤◌, List, length, take, drop, refl}
use Rattle.std.proofs.Common.{sym, ap, ◌∙◌, arith}
use Rattle.std.proofs.lemmas.Nat.{row_fits}
use Rattle.std.proofs.lemmas.List.{length-drop, length-take-le}
use Rattle.digits.specs.Rows.{at}
use Rattle.digits.specs.Sums.{product}
use Rattle.digits.proofs.Stretches.{at_stretch}
use Rattle.digits.proofs.Sums.{product_cong}
use Rattle.family.specs.Vectors.{pairing}
use Rattle.family.specs.Within.{within_in}
use Rattle.books.specs.BookVectors.{digit_from, book_vectors}
use Rattle.books.specs.Numbers.{dimension_of, count_of, second_of}
use Rattle.books.specs.Ordered.{InOrder, long_as}

-- below the count a vector ends within its section
pub vector_ends : (i n k : ℕ) → i < n → i * k + k ≤ n * k
vector_ends i n k h = row_fits i k n k h (omega arith)

-- a row cut out of a book is the vector at its position
pub vector_digit : (bs : List ℕ) (start k i c : ℕ) (x : List ℕ) → k ≡ dimension_of bs → i < count_of bs → c < k →
    x ≡ take k (drop (start + i * k) bs) → at x c ≡ digit_from start bs i c
vector_digit bs start k i c x wide h l is =
    ap (λ xs. at xs c) is ∙ at_stretch (start + i * k) k c bs l
    ∙ ap (λ d. at bs (start + i * d + c)) wide
    ∙ sym (within_in (count_of bs) (dimension_of bs) (λ m d. at bs (start + m * dimension_of bs + d)) i c h (omega arith))

-- the product of a row of the first section and one of the second, and whether it is allowed
module _ (bs : List ℕ) (start k i j : ℕ) (x y : List ℕ) (order : InOrder bs) (wide : k ≡ dimension_of bs)
    (from : start ≡ second_of bs) (hi : i < count_of bs) (hj : j < count_of bs)
    (isx : x ≡ take k (drop (6 + i * k) bs)) (isy : y ≡ take k (drop (start + j * k) bs)) where
  pairing_is : product (length x) (at x) (at y) ≡ pairing (book_vectors bs) i j
  pairing_is =
      let room = vector_ends i (count_of bs) k hi in
      let all = long_as bs (count_of bs) k order refl wide in
      let long : length x ≡ k = ap length isx ∙ length-take-le k (drop (6 + i * k) bs) (omega (arith, length-drop (6 + i * k) bs)) in
      ap (λ n. product n (at x) (at y)) (long ∙ wide)
      ∙ product_cong (dimension_of bs) (at x) (at y) (digit_from 6 bs i) (digit_from (second_of bs) bs j)
      (λ c l. vector_digit bs 6 k i c x wide hi (omega arith) isx)
      (λ c l. vector_digit bs start k j c y wide hj (omega arith) isy ∙ ap (λ s. digit_from s bs j c) from)
