-- The matching rule for words, by the number of places where two words agree.
use Rattle.std.specs.Prelude.{◌≡◌, ℕ, ◌*◌, ◌%◌, ◌^◌, ◌<◌, ◌≤◌, sum_by, nat_eq}
use Rattle.std.proofs.Common.{sym, ap, ap₂, ◌∙◌, inl, inr, zero-add, arith}
use Rattle.std.specs.List.{range_with_len}
use Rattle.std.specs.Int.Digits.{number_from_digits}
use Rattle.std.proofs.lemmas.List.FromFn.{length-range_with_len}
use Rattle.std.proofs.lemmas.List.Sums.{count_by-le-length}
use Rattle.std.proofs.lemmas.Bool.{cases_lt, lt-ltb, le-ltb, cond-true, cond-false}
use Rattle.digits.specs.Sums.{total, same}
use Rattle.digits.proofs.Sums.{total_cong}
use Rattle.family.specs.Vectors.{pairing}
use Rattle.words.specs.Agreement.{agreements, binomial, by_agreement}
use Rattle.words.specs.Marks.{mark, width, reading}
use Rattle.words.specs.Own.{own_coordinates}
use Rattle.words.specs.Places.{choose, sizes, place_sets}
use Rattle.words.specs.Words.{letter, weight, word_dim, word_digit, word_vectors}
use Rattle.words.specs.Choosing.{sum_by_size, agreeing_sets}
use Rattle.words.specs.Limits.{width_sets}
use Rattle.words.specs.ListSums.{sum_by-same}
use Rattle.words.specs.MarksLemmas.{mark_past, own_sum, own_marks}
use Rattle.words.specs.Readings.{letter_lt, word_number, agree_all}

-- a digit of a position that there is
pub digit_at : (h q : ℕ) (w : ℕ → ℕ) (t c : ℕ) → t < q ^ h → word_digit h q w t c ≡ mark q w (letter h q t) (place_sets h) c
unfolding word_digit
digit_at h q w t c l = cond-true _ _ _ (lt-ltb t (q ^ h) l)

pub digit_past : (h q : ℕ) (w : ℕ → ℕ) (t c : ℕ) → q ^ h ≤ t → word_digit h q w t c ≡ 0
unfolding word_digit
digit_past h q w t c l = cond-false _ _ _ (le-ltb t (q ^ h) l)

pub digit_past_dim : (h q : ℕ) (w : ℕ → ℕ) (t c : ℕ) → word_dim h q ≤ c → word_digit h q w t c ≡ 0
digit_past_dim h q w t c b =
    elim (cases_lt t (q ^ h)) [
      | inl l ↦ digit_at h q w t c l ∙ mark_past q w (letter h q t) (place_sets h) c (omega (arith, width_sets h q))
      | inr l ↦ digit_past h q w t c l
    ]

-- a product with u(t) is a sum over the word's own coordinates
pub own_product : (h q t : ℕ) → 0 < q → t < q ^ h → (y : ℕ → ℕ) →
    total (word_dim h q) (λ c. word_digit h q (λ s. 1) t c * y c) ≡ sum_by y (own_coordinates h q t)
own_product h q t pos l y =
    ap (λ n. total n (λ c. word_digit h q (λ s. 1) t c * y c)) (sym (width_sets h q))
    ∙ total_cong (width q (place_sets h)) _ _ (λ c b. ap₂ (λ x z. x * y z) (digit_at h q (λ s. 1) t c l) (sym (zero-add c)))
    ∙ own_sum q (letter h q t) (λ p. letter_lt h q t p pos) (place_sets h) 0 y

-- at how many places the words of two positions agree
abbrev pub common : ℕ → ℕ → ℕ → ℕ → ℕ
common h q t t' = agreements (letter h q t') (letter h q t) (range_with_len 0 h)

module _ (h q t t' : ℕ) (pos : 0 < q) (l : t < q ^ h) (l' : t' < q ^ h) where
  -- the product of u and v, by the number of places where the words agree
  pub pairing_agreement : pairing (word_vectors h q) t t' ≡ by_agreement h (common h q t t')
  pairing_agreement =
      ap (λ a. a % 6)
      (own_product h q t pos l (word_digit h q (weight h) t')
      ∙ own_marks q (letter h q t) (λ p. letter_lt h q t p pos) (weight h) (letter h q t') (place_sets h) 0 (word_digit h q (weight h) t')
      (λ c. ap (word_digit h q (weight h) t') (zero-add c) ∙ digit_at h q (weight h) t' c l')
      ∙ sum_by_size (weight h) (λ places. same (reading q (letter h q t') places) (reading q (letter h q t) places)) (range_with_len 0 h) sizes
      ∙ sum_by-same _ _ counts sizes)
    where
      counts : (s : ℕ) →
          weight h s * sum_by (λ places. same (reading q (letter h q t') places) (reading q (letter h q t) places)) (choose s (range_with_len 0 h))
          ≡ weight h s * binomial (common h q t t') s
      counts s =
          ap (λ a. weight h s * a)
          (agreeing_sets q (letter h q t') (letter h q t) (λ p. letter_lt h q t' p pos) (λ p. letter_lt h q t p pos) s (range_with_len 0 h))

  pub common_most : common h q t t' ≤ h
  common_most = omega (arith, count_by-le-length (λ p. nat_eq (letter h q t' p) (letter h q t p)) (range_with_len 0 h), length-range_with_len 0 h)

  -- words that agree everywhere are of one position
  pub common_all : common h q t t' ≡ h → t ≡ t'
  common_all e =
      sym (word_number h q t l)
      ∙ ap (number_from_digits q) (sym (agree_all (letter h q t') (letter h q t) (range_with_len 0 h) (e ∙ sym (length-range_with_len 0 h))))
      ∙ word_number h q t' l'
