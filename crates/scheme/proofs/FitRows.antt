-- The rows of a lookup are fit: both queries, a zeroed sheet, and a sheet that a host answered into.
use Rattle.std.proofs.Common.{◌≡◌, ℕ, ◌+◌, ◌<◌, ◌≤◌, List, drop, replicate, sym, ◌∙◌, length-drop, arith}
use Rattle.std.proofs.lemmas.List.{ext_get_or, get_or-replicate, length-replicate, length-take-le}
use Rattle.digits.specs.Rows.{at, row, Digits}
use Rattle.digits.proofs.DigitRows.{remainders, digits-take, digits-drop}
use Rattle.digits.proofs.RowLaws.{length-row, at_row}
use Rattle.family.specs.Vectors.{Vectors}
use Rattle.scheme.specs.Answers.{Query, Sheet, answer, answered, sheet_size, zero_sheet}
use Rattle.scheme.specs.Queries.{second_query}
use Rattle.scheme.specs.Sessions.{Session, digits_left, next_digits}

pub first_fit : (f : Vectors) (s : Session) → Digits s.tape → f.dim ≡ s.dim → s.dim ≤ digits_left s → Query f (next_digits s)
first_fit f s digits is room = (
  length-take-le s.dim (drop s.place s.tape) (omega (arith, length-drop s.place s.tape)) ∙ sym is,
  digits-take s.dim (drop s.place s.tape) (digits-drop s.place s.tape digits),
)

pub second_fit : (f : Vectors) (t : ℕ) (z : List ℕ) → Query f (second_query f t z)
unfolding second_query
second_fit f t z = remainders f.dim (λ c. at z c + f.v t c)

pub zero_fit : (f : Vectors) → Sheet f (zero_sheet f)
zero_fit f = remainders (sheet_size f.dim) (λ x. 0)

-- a row filled with zeros is the row that has 0 at each place
pub zeros : (n : ℕ) → replicate n 0 ≡ row n (λ x. 0)
zeros n =
    ext_get_or 0 (replicate n 0) (row n (λ x. 0)) (length-replicate n 0 ∙ sym (length-row n (λ x. 0)))
    (λ i h. let l : i < n = omega (arith, length-replicate {A = ℕ}) in get_or-replicate n i 0 0 l ∙ sym (at_row n (λ x. 0) i l))

-- what was answered to any sheet is a sheet again
pub answered_fit : (f : Vectors) (a : ℕ → ℕ) (p sheet : List ℕ) → Sheet f (answered f a p sheet)
unfolding answered
answered_fit f a p sheet = remainders (sheet_size f.dim) (λ x. at sheet x + answer f a p x)
