-- Rows of digits: those made by a rule, and what is put together or cut from them; and that they are not refused.
use Rattle.std.proofs.Common.{◌≡◌, ℕ, zero, suc, ◌+◌, ◌%◌, ◌<◌, ltb, List, [], ◌∷◌, ◌++◌, length, take, drop, None, inl, inr, get_or-drop, eqb, eqb-true, eq-eqb, lt-ltb, arith}
use Rattle.std.proofs.lemmas.Bool.{cases_lt, cond-true}
use Rattle.std.proofs.lemmas.List.{get_or_past}
use Rattle.std.proofs.lemmas.List.Sums.{prefix_len_is}
use Rattle.digits.specs.Rows.{row, Digits, first_above}
use Rattle.digits.specs.Refusals.{digits_fault}
use Rattle.digits.proofs.Passing.{passed}
use Rattle.digits.proofs.RowLaws.{length-row, at_row, above_none}

pub digits-row : (n : ℕ) (f : ℕ → ℕ) → ((i : ℕ) → i < n → f i < 6) → Digits (row n f)
digits-row n f each i =
    elim (cases_lt i n) [
      | inl l ↦ omega (arith, at_row n f i l, each i l)
      | inr past ↦ omega (arith, get_or_past (row n f) i 0 (omega (arith, length-row n f)))
    ]

-- a row of remainders
pub remainders : (n : ℕ) (f : ℕ → ℕ) → (length (row n (λ i. f i % 6)) ≡ n) × Digits (row n (λ i. f i % 6))
remainders n f = (length-row n (λ i. f i % 6), digits-row n (λ i. f i % 6) (λ i h. omega arith))

pub digits-append : (xs ys : List ℕ) → Digits xs → Digits ys → Digits (xs ++ ys)
digits-append [] ys dx dy i = dy i
digits-append (x ∷ xs) ys dx dy zero = dx 0
digits-append (x ∷ xs) ys dx dy (suc i) = digits-append xs ys (λ j. dx (suc j)) dy i

pub digits-drop : (n : ℕ) (xs : List ℕ) → Digits xs → Digits (drop n xs)
digits-drop n xs d i = rw (get_or-drop n xs i 0) (d (n + i))

pub digits-take : (n : ℕ) (xs : List ℕ) → Digits xs → Digits (take n xs)
digits-take zero xs d i = omega arith
digits-take (suc n) [] d i = omega arith
digits-take (suc n) (x ∷ xs) d zero = d 0
digits-take (suc n) (x ∷ xs) d (suc i) = digits-take n xs (λ j. d (suc j)) i

-- a row is not refused for its bytes exactly where each is a digit
pub digits_from : (xs : List ℕ) → digits_fault xs ≡ None → Digits xs
digits_from xs e = above_none xs (eqb-true (first_above xs) (length xs) (passed (eqb (first_above xs) (length xs)) _ e))

pub digits_pass : (xs : List ℕ) → Digits xs → digits_fault xs ≡ None
digits_pass xs d =
    cond-true _ None _
    (eq-eqb (first_above xs) (length xs)
    (prefix_len_is (λ x. ltb x 6) xs (length xs) 0 (omega arith) (λ k h. lt-ltb _ 6 (d k)) (λ h. absurd (omega arith))))
