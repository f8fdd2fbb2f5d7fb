-- Multiplying: the factors may change places, and multiplying by an element or by a number is additive.
use Rattle.std.proofs.Common.{◌≡◌, ℕ, ◌+◌, ◌-◌, ◌*◌, ◌%◌, List, sym, ap, ap₂, ◌∙◌, mul_comm, add_comm, arith}
use Rattle.std.proofs.lemmas.Nat.{mul-mod_second}
use Rattle.digits.specs.Elements.{zero_element, plus, times, times_digit, scaled}
use Rattle.digits.specs.Rows.{at}
use Rattle.digits.specs.Sums.{same}
use Rattle.digits.proofs.Multiplying.{at-times, times_digit_single}
use Rattle.digits.proofs.RowLaws.{at_row, row_cong}
use Rattle.digits.proofs.SumLaws.{total_add, total_mod, total_nil, total_swap}
use Rattle.digits.proofs.Additive.{Additive, additive_scaled}
use Rattle.digits.proofs.RingSums.{at_plus, at_scaled}

digit_comm : (e f : List ℕ) (r : ℕ) → times_digit e f r ≡ times_digit f e r
unfolding times_digit
digit_comm e f r =
    ap (λ s. s % 6)
    (total_swap 6 6 (λ i j. at e i * at f j * same ((i + j) % 6) r) ∙ simp (mul_comm, add_comm))

pub times_comm : (e f : List ℕ) → times e f ≡ times f e
times_comm e f = row_cong 6 (times_digit e f) (times_digit f e) (λ r h. digit_comm e f r)

-- multiplying by the element c, on the left and on the right
pub additive_times : (c : List ℕ) → Additive (times c)
additive_times c = record {
  nothing =
      row_cong 6 (times_digit c zero_element) (λ r. 0)
      (λ r h.
      times_digit_single c zero_element r h
      ∙ total_nil 6 (λ i. at c i * at zero_element ((r + 6 - i) % 6))
      (λ i l. ap (λ d. at c i * d % 6) (at_row 6 (λ q. 0) ((r + 6 - i) % 6) (omega arith)) ∙ omega arith));
  sums = λ x y.
      row_cong 6 (times_digit c (plus x y)) (λ r. (at (times c x) r + at (times c y) r) % 6)
      (λ r h.
      let m : ℕ → ℕ = λ i. at c i * at x ((r + 6 - i) % 6) in
      let n : ℕ → ℕ = λ i. at c i * at y ((r + 6 - i) % 6) in
      times_digit_single c (plus x y) r h
      ∙ total_mod 6 (λ i. at c i * at (plus x y) ((r + 6 - i) % 6)) (λ i. m i + n i)
      (λ i l.
      let q : ℕ = (r + 6 - i) % 6 in
      ap (λ d. at c i * d % 6) (at_plus x y q (omega arith)) ∙ omega (arith, mul-mod_second (at c i) (at x q + at y q) 6))
      ∙ omega (arith, total_add 6 m n, at-times c x r h, at-times c y r h));
}

pub additive_by : (c : List ℕ) → Additive (λ x. times x c)
additive_by c =
    let left = additive_times c in
    record {
      nothing = times_comm zero_element c ∙ left.nothing;
      sums = λ x y. times_comm (plus x y) c ∙ left.sums x y ∙ ap₂ plus (times_comm c x) (times_comm c y);
    }

pub additive_number : (n : ℕ) → Additive (scaled n)
additive_number n = record {
  nothing =
      row_cong 6 (λ r. n * at zero_element r % 6) (λ r. 0)
      (λ r h. ap (λ d. n * d % 6) (at_row 6 (λ q. 0) r h) ∙ omega arith);
  sums = λ x y.
      row_cong 6 (λ r. n * at (plus x y) r % 6) (λ r. (at (scaled n x) r + at (scaled n y) r) % 6)
      (λ r h.
      ap (λ d. n * d % 6) (at_plus x y r h)
      ∙ omega (arith, mul-mod_second n (at x r + at y r) 6, at_scaled n x r h, at_scaled n y r h));
}

pub scaled-scaled : (m n : ℕ) (x : List ℕ) → scaled m (scaled n x) ≡ scaled (m * n) x
scaled-scaled m n x =
    row_cong 6 (λ r. m * at (scaled n x) r % 6) (λ r. m * n * at x r % 6)
    (λ r h. ap (λ d. m * d % 6) (at_scaled n x r h) ∙ omega (arith, mul-mod_second m (n * at x r) 6))

-- a product with one factor a number of times another
pub scaled-times : (n : ℕ) (c x : List ℕ) → scaled n (times c x) ≡ times (scaled n c) x
scaled-times n c x = sym (additive_scaled (λ y. times y x) (additive_by x) n c)
