-- An accepted book tells a matching family.
use Rattle.std.specs.Prelude.{◌≡◌, ℕ, ◌+◌, ◌*◌, ◌<◌, cond, List, length, take, drop, None, nat_lt, refl}
use Rattle.std.proofs.Common.{inl, inr, sym, ap, ◌∙◌, add_assoc, arith}
use Rattle.std.proofs.lemmas.Nat.{mul-add-lt}
use Rattle.std.proofs.lemmas.Bool.{cases_lt, lt-ltb, le-ltb, cond-true, cond-false}
use Rattle.digits.specs.Rows.{at, Digits}
use Rattle.digits.specs.Sums.{product}
use Rattle.digits.proofs.Stretches.{at_stretch}
use Rattle.digits.proofs.Sums.{product_cong, product_none, product_zero}
use Rattle.family.specs.Vectors.{MatchingFamily}
use Rattle.family.specs.Within.{told-within, within_past_count}
use Rattle.books.specs.BookVectors.{digit_from, book_vectors}
use Rattle.books.specs.Books.{book_fault}
use Rattle.books.specs.Numbers.{dimension_of, count_of, size_of, second_of}
use Rattle.books.specs.Accepting.{only_families}
use Rattle.books.specs.Ordered.{in_order}

-- a section of digits tells digits
section_digit : (bs : List ℕ) (start : ℕ) → Digits (take (size_of bs) (drop start bs)) →
    (i c : ℕ) → i < count_of bs → c < dimension_of bs → at bs (start + i * dimension_of bs + c) < 6
section_digit bs start digits i c h l =
    let place : ℕ = i * dimension_of bs + c in
    let inside = mul-add-lt i (dimension_of bs) c (count_of bs) h l in
    let there =
    ap (at bs) (add_assoc start (i * dimension_of bs) c)
    ∙ sym (at_stretch start (size_of bs) place bs (omega arith)) in
    omega (arith, there, digits place)

pub book_family : (bs : List ℕ) → book_fault bs ≡ None → MatchingFamily (book_vectors bs)
book_family bs e =
    let both = only_families bs e in
    let order = in_order bs both.0 in
    record {
      limits = record { some = order.some; few = omega arith; wide = order.wide; narrow = order.narrow };
      told =
          told-within (count_of bs) (dimension_of bs)
          (λ i c. at bs (6 + i * dimension_of bs + c)) (λ i c. at bs (second_of bs + i * dimension_of bs + c))
          (section_digit bs 6 order.u_digits) (section_digit bs (second_of bs) order.v_digits);
      matches = both.1;
    }

-- a row that holds a vector, or is empty past the last position, has the vector's digits and its products
module _ (bs : List ℕ) (start n k i : ℕ) (counted : n ≡ count_of bs) (wide : k ≡ dimension_of bs) (x : List ℕ) where
  pub vector_product : ((c : ℕ) → at x c ≡ digit_from start bs i c) → length x ≡ cond (nat_lt i n) k 0 → (y : ℕ → ℕ) →
      product (length x) (at x) y ≡ product (dimension_of bs) (digit_from start bs i) y
  vector_product digits long y =
      elim (cases_lt i n) [
        | inl h ↦
            ap (λ m. product m (at x) y) (long ∙ cond-true _ _ _ (lt-ltb i n h) ∙ wide)
            ∙ product_cong (dimension_of bs) (at x) y (digit_from start bs i) y (λ c l. digits c) (λ c l. refl)
        | inr past ↦
            ap (λ m. product m (at x) y) (long ∙ cond-false _ _ _ (le-ltb i n past)) ∙ product_none (at x) y
            ∙ sym (product_zero (dimension_of bs) (digit_from start bs i) y (λ c l. within_past_count (count_of bs) (dimension_of bs) (λ m d. at bs (start + m * dimension_of bs + d)) i c (omega arith)))
      ]
