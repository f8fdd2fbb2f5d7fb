-- A row to which a vector is added, digit by digit, modulo 6.
use Rattle.std.specs.Prelude.{ℕ, ◌+◌, ◌%◌, cond, List, length, ◌==◌}
use Rattle.digits.specs.Rows.{at, row}

-- where the vector is 0 a place stays as it is, whatever byte it holds
abbrev pub added_at : (ℕ → ℕ) → List ℕ → ℕ → ℕ
added_at v xs c = cond (v c == 0) (at xs c) ((at xs c + v c) % 6)

unfoldable pub added : (ℕ → ℕ) → List ℕ → List ℕ
added v xs = row (length xs) (added_at v xs)
