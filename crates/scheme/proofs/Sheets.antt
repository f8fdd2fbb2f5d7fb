-- What stands on the sheet of a table for a query, digit by digit.
use Rattle.std.proofs.Common.{◌≡◌, ℕ, ◌+◌, ◌*◌, ◌%◌, ◌<◌, List, ◌∙◌, ap₂, arith}
use Rattle.std.proofs.Math.Nat.{mod-mod}
use Rattle.std.proofs.lemmas.Bool.{lt-ltb, le-ltb}
use Rattle.digits.specs.Rows.{at}
use Rattle.digits.proofs.RowLaws.{at_row}
use Rattle.family.specs.Vectors.{Vectors}
use Rattle.scheme.specs.Answers.{power_sum, answer, answered, zero_sheet, sheet_size, sheet_of}

module _ (f : Vectors) (a : ℕ → ℕ) (p : List ℕ) where
  at_sheet : (x : ℕ) → x < sheet_size f.dim → at (sheet_of f a p) x ≡ answer f a p x % 6
  unfolding answered
  at_sheet x h =
      at_row (sheet_size f.dim) (λ y. (at (zero_sheet f) y + answer f a p y) % 6) x h
      ∙ omega (arith, at_row (sheet_size f.dim) (λ y. 0) x h)

  -- digit r of the value
  pub at_value : (r : ℕ) → r < 6 → at (sheet_of f a p) r ≡ power_sum f a p r
  at_value r h = at_sheet r (omega arith) ∙ rw (lt-ltb r 6 h, mod-mod)

  -- digit r of the element of coordinate c
  pub at_coordinate : (c r : ℕ) → c < f.dim → r < 6 → at (sheet_of f a p) (6 * (1 + c) + r) ≡ power_sum f (λ i. a i * f.u i c) p r
  at_coordinate c r k h =
      at_sheet (6 * (1 + c) + r) (omega arith)
      ∙ rw (le-ltb (6 * (1 + c) + r) 6 (omega arith), mod-mod) (ap₂ (λ d s. power_sum f (λ i. a i * f.u i d) p s) (omega arith) (omega arith))
