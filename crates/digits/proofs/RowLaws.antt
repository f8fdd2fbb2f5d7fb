-- Rows digit by digit, and what it means that a row or a number is not refused.
use Rattle.std.proofs.Common.{◌≡◌, ℕ, zero, suc, ◌+◌, ◌<◌, ◌≤◌, ltb, leb, List, [], ◌∷◌, ◌%◌, length, None, sym, refl, ◌∙◌, inl, inr, arith}
use Rattle.std.proofs.lemmas.List.FromFn.{length-map-range_with_len, get_or-map-range_with_len, fill_by_all}
use Rattle.std.proofs.lemmas.List.{ext_get_or}
use Rattle.std.proofs.lemmas.Bool.{cases_Bool, ltb-true, leb-true, and_parts, cond-true, cond-false}
use Rattle.faults.specs.declared.Layer.{Layer}
use Rattle.digits.specs.Rows.{at, row, Digits, first_above, reduced}
use Rattle.digits.specs.Refusals.{limit_fault}
use Rattle.digits.proofs.Passing.{passed}

pub length-row : (n : ℕ) (f : ℕ → ℕ) → length (row n f) ≡ n
length-row n f = length-map-range_with_len f 0 n

pub at_row : (n : ℕ) (f : ℕ → ℕ) (i : ℕ) → i < n → at (row n f) i ≡ f i
at_row n f i h = get_or-map-range_with_len f 0 n i i 0 h (omega arith)

-- two rows that agree digit by digit are equal
pub row_cong : (n : ℕ) (f g : ℕ → ℕ) → ((i : ℕ) → i < n → f i ≡ g i) → row n f ≡ row n g
row_cong n f g each =
    ext_get_or 0 (row n f) (row n g) (length-row n f ∙ sym (length-row n g))
    (λ i l. let k : i < n = omega (arith, length-row n f) in at_row n f i k ∙ each i k ∙ sym (at_row n g i k))

-- where no byte above 5 is found, each is a digit
pub above_none : (xs : List ℕ) → first_above xs ≡ length xs → Digits xs
above_none [] e i = omega arith
above_none (x ∷ xs) e i =
    elim (cases_Bool (ltb x 6)) [
      | inl t ↦ from i (omega (arith, ltb-true x 6 t))
          (above_none xs (let s = cond-true (ltb x 6) (1 + first_above xs) 0 t in omega (arith, s, e)))
      | inr f ↦ absurd (let s = cond-false (ltb x 6) (1 + first_above xs) 0 f in omega (arith, s, e))
    ]
  where
    from : (i : ℕ) → x < 6 → Digits xs → at (x ∷ xs) i < 6
    from zero h d = h
    from (suc i) h d = d i

-- a row is reduced once each of its bytes is
pub reduced_all : (xs ys : List ℕ) → length ys ≡ length xs → ((i : ℕ) → i < length xs → at ys i ≡ at xs i % 6) → ys ≡ reduced xs
reduced_all xs ys long each = fill_by_all (λ i. at xs i % 6) ys (length xs) 0 long each

-- a row of six digits, one by one
pub six_of : (xs : List ℕ) → length xs ≡ 6 → at xs 0 ∷ at xs 1 ∷ at xs 2 ∷ at xs 3 ∷ at xs 4 ∷ at xs 5 ∷ [] ≡ xs
six_of xs e = sym (fill_by_all (at xs) xs 6 0 e (λ k h. refl))

-- a number is not refused for its size exactly where it lies within the limits
pub limit_fit : (part : Layer) (low high n : ℕ) → limit_fault part low high n ≡ None → (low ≤ n) × (n ≤ high)
limit_fit part low high n e =
    let both = and_parts (leb low n) (leb n high) (passed _ _ e) in
    (leb-true low n both.0, leb-true n high both.1)
