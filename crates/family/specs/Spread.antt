-- Spreading an amount over the elements of all coordinates.
use Rattle.std.specs.Prelude.{ℕ, ◌+◌, ◌*◌, ◌/◌, ◌%◌, cond, not, ◌&&◌, List, length, ◌==◌}
use Rattle.digits.specs.Rows.{at, row}

-- The elements of all coordinates stand one after the other, six digits each, so place x is digit x % 6 of the element
-- of coordinate x / 6. Spreading adds the amount times u(c) times the power e of g to the element of each
-- coordinate c. Where u(c) is 0, and at the other powers, a place stays as it is; the last places may be missing.
abbrev pub spread_at : (ℕ → ℕ) → ℕ → ℕ → List ℕ → ℕ → ℕ
spread_at u amount e xs x =
    cond (x % 6 == e % 6 && not (u (x / 6) == 0)) ((at xs x + amount * u (x / 6)) % 6) (at xs x)

unfoldable pub spread : (ℕ → ℕ) → ℕ → ℕ → List ℕ → List ℕ
spread u amount e xs = row (length xs) (spread_at u amount e xs)
