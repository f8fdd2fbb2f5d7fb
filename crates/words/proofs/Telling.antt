-- The digits of u and v by the position's own coordinates.
use Rattle.std.proofs.Common.{◌≡◌, ℕ, ◌*◌, ◌%◌, ◌^◌, ◌<◌, ◌≤◌, Bool, true, false, ◌==◌, List, [], length, sum_by, sym, refl, ap, ◌∙◌, inl, inr, eqb-true, eq-eqb, one-mul, zero-mul, arith}
use Rattle.std.specs.List.{IsAnyAnswer}
use Rattle.std.proofs.lemmas.Bool.{cases_lt, false≢true, lt-ltb, le-ltb, cond-true, cond-false}
use Rattle.digits.specs.Rows.{at}
use Rattle.digits.specs.Sums.{product}
use Rattle.digits.proofs.Sums.{product_zero}
use Rattle.words.specs.Own.{own_coordinates, own_or_none}
use Rattle.words.specs.Places.{place_sets}
use Rattle.words.specs.Words.{letter, weight, size_at, word_dim, word_digit}
use Rattle.words.specs.Limits.{width_sets, dim_narrow}
use Rattle.words.specs.Matching.{digit_at, digit_past, own_product}
use Rattle.words.proofs.OwnCoordinates.{length_own, own_most, own_rising, own_found, own_missing}
use Rattle.words.proofs.Weighing.{digit_weigh}
use Rattle.words.specs.Readings.{letter_lt}

-- a list of a position's own coordinates
module _ (h q t : ℕ) (pos : 0 < q) (own : List ℕ) (is : own ≡ own_or_none h q t) where
  own_there : t < q ^ h → own ≡ own_coordinates h q t
  own_there l = is ∙ cond-true _ _ _ (lt-ltb t (q ^ h) l)

  own_past : q ^ h ≤ t → own ≡ []
  own_past l = is ∙ cond-false _ _ _ (le-ltb t (q ^ h) l)

  -- where there are own coordinates, there is the position
  own_some : (k : ℕ) → k < length own → t < q ^ h
  own_some k b = elim (cases_lt t (q ^ h)) [ inl l ↦ l | inr l ↦ absurd (omega (arith, ap length (own_past l))) ]

  own_length : t < q ^ h → length own ≡ length (place_sets h)
  own_length l = ap length (own_there l) ∙ length_own q (letter h q t) 0 (place_sets h)

  own_at : t < q ^ h → (k : ℕ) → at own k ≡ at (own_coordinates h q t) k
  own_at l k = ap (λ xs. at xs k) (own_there l)

  pub own_lt : (k : ℕ) → k < length own → at own k < word_dim h q
  own_lt k b =
      let l = own_some k b in
      let long = own_length l in
      omega (arith, own_at l k, width_sets h q, own_most q (letter h q t) (λ p. letter_lt h q t p pos) (place_sets h) 0 k (omega arith))

  pub own_small : h ≤ 5 → q ≤ 16 → (k : ℕ) → k < length own → at own k < 2641
  own_small short few k b = omega (arith, own_lt k b, dim_narrow h q short few)

  pub own_rises : (i j : ℕ) → i < j → j < length own → at own i < at own j
  own_rises i j a b =
      let l = own_some j b in
      let long = own_length l in
      omega (arith, own_at l i, own_at l j, own_rising q (letter h q t) (λ p. letter_lt h q t p pos) (place_sets h) 0 i j a (omega arith))

  pub u_found : (c k : ℕ) → k < length own → at own k ≡ c → word_digit h q (λ s. 1) t c ≡ 1
  u_found c k b e =
      let l = own_some k b in
      let long = own_length l in
      digit_at h q (λ s. 1) t c l
      ∙ own_found q (letter h q t) (λ p. letter_lt h q t p pos) (place_sets h) c k (omega arith) (sym (own_at l k) ∙ e)

  pub u_missing : (c : ℕ) → ((k : ℕ) → k < length own → at own k ≡ c → ⊥) → word_digit h q (λ s. 1) t c ≡ 0
  u_missing c none =
      elim (cases_lt t (q ^ h)) [
        | inl l ↦
            let long = own_length l in
            digit_at h q (λ s. 1) t c l
            ∙ own_missing q (letter h q t) (λ p. letter_lt h q t p pos) (place_sets h) c (λ k b e. none k (omega arith) (own_at l k ∙ e))
        | inr l ↦ digit_past h q (λ s. 1) t c l
      ]

  -- v is the weight there, and 0 elsewhere
  pub v_found : (k : ℕ) → k < length own → word_digit h q (weight h) t (at own k) ≡ weight h (size_at h q (at own k))
  v_found k b =
      digit_weigh h q t (at own k)
      ∙ ap (λ a. a * weight h (size_at h q (at own k))) (u_found (at own k) k b refl) ∙ one-mul (weight h (size_at h q (at own k)))

  pub v_missing : (c : ℕ) → ((k : ℕ) → k < length own → at own k ≡ c → ⊥) → word_digit h q (weight h) t c ≡ 0
  v_missing c none =
      digit_weigh h q t c
      ∙ ap (λ a. a * weight h (size_at h q c)) (u_missing c none) ∙ zero-mul (weight h (size_at h q c))

  -- whether a coordinate is among the own ones
  pub u_told : (c : ℕ) (b : Bool) (r : ℕ) → IsAnyAnswer (λ y x. (y == c) ≡ x) own b → (b ≡ true → r ≡ 1) → (b ≡ false → r ≡ 0) →
      r ≡ word_digit h q (λ s. 1) t c
  u_told c true r there one none = one refl ∙ sym (u_found c there.0 there.1 (eqb-true _ _ (there.2 0)))
  u_told c false r there one none = none refl ∙ sym (u_missing c (λ k l e. false≢true (sym (there k 0 (omega arith) l) ∙ eq-eqb _ _ e)))

  pub product_told : (y : ℕ → ℕ) → product (word_dim h q) (word_digit h q (λ s. 1) t) y ≡ sum_by y own % 6
  product_told y =
      elim (cases_lt t (q ^ h)) [
        | inl l ↦ ap (λ a. a % 6) (own_product h q t pos l y ∙ ap (sum_by y) (sym (own_there l)))
        | inr l ↦
            product_zero (word_dim h q) (word_digit h q (λ s. 1) t) y (λ c b. digit_past h q (λ s. 1) t c l)
            ∙ ap (λ xs. sum_by y xs % 6) (sym (own_past l))
      ]
