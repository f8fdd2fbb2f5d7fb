-- Sums, and the product of two vectors of digits.
use Rattle.std.specs.Prelude.{ℕ, zero, suc, ◌+◌, ◌*◌, ◌%◌, cond, ◌==◌}

-- f 0 + f 1 + .. + f (n - 1), not reduced
unfoldable pub total : ℕ → (ℕ → ℕ) → ℕ
total zero f = 0
total (suc n) f = total n f + f n

-- the product of two vectors of k digits: the sum of the coordinates' products, modulo 6
abbrev pub product : ℕ → (ℕ → ℕ) → (ℕ → ℕ) → ℕ
product k x y = total k (λ c. x c * y c) % 6

-- 1 where the two numbers are equal, else 0
abbrev pub same : ℕ → ℕ → ℕ
same m n = cond (m == n) 1 0
