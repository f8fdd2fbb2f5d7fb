-- A rule of finitely many cases, by one computed test.
use Rattle.std.specs.Prelude.{◌≡◌, ℕ, zero, suc, ◌<◌, Bool, true, ◌&&◌}
use Rattle.std.proofs.Common.{ap, ◌∙◌, inl, inr, not-suc-le-zero, arith}
use Rattle.std.proofs.lemmas.Bool.{cases_eq, and_parts}

-- a test at each number below n
abbrev pub each_below : (ℕ → Bool) → ℕ → Bool
each_below f zero = true
each_below f (suc n) = f n && each_below f n

pub from_each : (f : ℕ → Bool) (n : ℕ) → each_below f n ≡ true → (k : ℕ) → k < n → f k ≡ true
from_each f zero e k l = absurd (not-suc-le-zero l)
from_each f (suc n) e k l =
    elim (cases_eq k n) [
      | inl g ↦ ap f g ∙ (and_parts (f n) (each_below f n) e).0
      | inr g ↦ from_each f n (and_parts (f n) (each_below f n) e).1 k (omega arith)
    ]
