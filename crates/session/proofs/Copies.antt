-- A copy of digits, and what it is once it is reduced and a vector is added: the digits with the vector added.
use Rattle.std.proofs.Common.{◌≡◌, ℕ, ◌+◌, ◌-◌, ◌%◌, ◌<◌, ◌≤◌, List, ◌++◌, length, take, replicate, sym, ap, ◌∙◌, inl, inr, arith, length-append}
use Rattle.std.proofs.lemmas.Bool.{cases_eq, cases_lt}
use Rattle.std.proofs.lemmas.List.{get_or_append_left, get_or-append_right, get_or-take, get_or-replicate, get_or_past, length-take-le, length-replicate}
use Rattle.std.proofs.lemmas.List.FromFn.{fill_by_all}
use Rattle.digits.specs.Rows.{at, row}
use Rattle.digits.proofs.RowLaws.{length-row, at_row, row_cong}
use Rattle.family.specs.Added.{added_at, added}
use Rattle.family.proofs.Adding.{added_zero, added_other}

-- the first n digits and zeros behind them are all that the digits are below l, where n is l, or all the digits and no more than l
pub padded : (n l : ℕ) (xs : List ℕ) → n ≤ l → n ≤ length xs → (n < l → length xs ≤ n) → take n xs ++ replicate (l - n) 0 ≡ row l (at xs)
padded n l xs room short whole =
    let long : length (take n xs) ≡ n = length-take-le n xs short in
    fill_by_all (at xs) (take n xs ++ replicate (l - n) 0) l 0
    (omega (arith, long, length-append (take n xs) (replicate (l - n) 0), length-replicate {A = ℕ} (l - n) 0))
    (λ c h. elim (cases_lt c n) [
      | inl copied ↦ get_or_append_left (take n xs) (replicate (l - n) 0) 0 c (omega (arith, long)) ∙ get_or-take n xs c 0 copied
      | inr past ↦
          get_or-append_right (take n xs) (replicate (l - n) 0) n c 0 long past
          ∙ get_or-replicate (l - n) (c - n) 0 0 (omega arith)
          ∙ sym (get_or_past xs c 0 (omega (arith, whole (omega arith))))
    ])

added_digit : (v : ℕ → ℕ) (xs : List ℕ) (c d : ℕ) → at xs c ≡ d % 6 → added_at v xs c ≡ (d + v c) % 6
added_digit v xs c d is =
    elim (cases_eq (v c) 0) [
      | inl z ↦ omega (arith, added_zero v xs c z)
      | inr nz ↦ omega (arith, added_other v xs c nz)
    ]

-- with what the copy holds, and what it holds once it is reduced
pub added_copy : (n : ℕ) (z copy reduced : List ℕ) (v : ℕ → ℕ) → copy ≡ row n (at z) → reduced ≡ row (length copy) (λ c. at copy c % 6) →
    added v reduced ≡ row n (λ c. (at z c + v c) % 6)
unfolding added
added_copy n z copy reduced v is rest =
    let long : length copy ≡ n = ap length is ∙ length-row n (at z) in
    let whole : length reduced ≡ n = ap length rest ∙ length-row (length copy) (λ c. at copy c % 6) ∙ long in
    ap (λ m. row m (added_at v reduced)) whole
    ∙ row_cong n (added_at v reduced) (λ c. (at z c + v c) % 6)
    (λ c l.
    added_digit v reduced c (at z c)
    (ap (λ xs. at xs c) rest ∙ at_row (length copy) (λ c. at copy c % 6) c (omega arith)
    ∙ ap (λ d. d % 6) (ap (λ xs. at xs c) is ∙ at_row n (at z) c l)))
