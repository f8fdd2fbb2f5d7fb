-- The product of v and elements is a sum over a position's own coordinates.
use Rattle.std.proofs.Common.{◌≡◌, ℕ, ◌*◌, ◌%◌, ◌<◌, List, length, sym, ap, ◌∙◌, mul_assoc, arith}
use Rattle.digits.specs.Elements.{scaled}
use Rattle.digits.specs.Rows.{at}
use Rattle.digits.specs.Ring.{sum_of}
use Rattle.digits.specs.Sums.{total}
use Rattle.digits.proofs.RowLaws.{row_cong}
use Rattle.digits.proofs.RingSums.{at_scaled, sum_of-row}
use Rattle.digits.proofs.SumLaws.{total_mod}
use Rattle.words.specs.ListSums.{sum_by-total}
use Rattle.words.specs.Own.{own_or_none}
use Rattle.words.specs.Words.{weight, size_at, word_dim, word_digit}
use Rattle.words.proofs.Telling.{product_told}
use Rattle.words.proofs.Weighing.{digit_weigh}

reduced_scaled : (a : ℕ) (e : List ℕ) (r : ℕ) → r < 6 → at (scaled a e) r % 6 ≡ a * at e r % 6
reduced_scaled a e r l = omega (arith, at_scaled a e r l)

module _ (h q t : ℕ) (pos : 0 < q) (own : List ℕ) (is : own ≡ own_or_none h q t) (e : ℕ → List ℕ) where
  -- digit r of the element of coordinate c, with the weight there
  abbrev weighted : ℕ → ℕ → ℕ
  weighted r c = weight h (size_at h q c) * at (e c) r

  by_digit : (r : ℕ) → r < 6 →
      total (length own) (λ k. at (scaled (weight h (size_at h q (at own k))) (e (at own k))) r) % 6
      ≡ total (word_dim h q) (λ c. at (scaled (word_digit h q (weight h) t c) (e c)) r) % 6
  by_digit r l =
      total_mod (length own) (λ k. at (scaled (weight h (size_at h q (at own k))) (e (at own k))) r) (λ k. weighted r (at own k))
      (λ k b. reduced_scaled (weight h (size_at h q (at own k))) (e (at own k)) r l)
      ∙ ap (λ n. n % 6) (sym (sum_by-total (weighted r) own 0))
      ∙ sym (product_told h q t pos own is (weighted r))
      ∙ total_mod (word_dim h q) (λ c. word_digit h q (λ s. 1) t c * weighted r c) (λ c. at (scaled (word_digit h q (weight h) t c) (e c)) r)
      (λ c b.
      ap (λ n. n % 6)
      (sym (mul_assoc (word_digit h q (λ s. 1) t c) (weight h (size_at h q c)) (at (e c) r))
      ∙ ap (λ d. d * at (e c) r) (sym (digit_weigh h q t c)))
      ∙ sym (reduced_scaled (word_digit h q (weight h) t c) (e c) r l))

  pub own_elements :
      sum_of (length own) (λ k. scaled (weight h (size_at h q (at own k))) (e (at own k)))
      ≡ sum_of (word_dim h q) (λ c. scaled (word_digit h q (weight h) t c) (e c))
  own_elements =
      sum_of-row (length own) (λ k. scaled (weight h (size_at h q (at own k))) (e (at own k)))
      ∙ row_cong 6 (λ r. total (length own) (λ k. at (scaled (weight h (size_at h q (at own k))) (e (at own k))) r) % 6)
      (λ r. total (word_dim h q) (λ c. at (scaled (word_digit h q (weight h) t c) (e c)) r) % 6) by_digit
      ∙ sym (sum_of-row (word_dim h q) (λ c. scaled (word_digit h q (weight h) t c) (e c)))
