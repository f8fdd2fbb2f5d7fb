-- Where two words agree, and what the matching rule makes of it.
use Rattle.std.specs.Prelude.{ℕ, zero, suc, ◌+◌, ◌*◌, ◌%◌, not, List, sum_by, count_by, ◌==◌, nat_eq}
use Rattle.words.specs.Places.{sizes}
use Rattle.words.specs.Words.{weight}

-- at how many of these places two words have the same letter
abbrev pub agreements : (ℕ → ℕ) → (ℕ → ℕ) → List ℕ → ℕ
agreements word other places = count_by (λ p. nat_eq (word p) (other p)) places

abbrev pub differences : (ℕ → ℕ) → (ℕ → ℕ) → List ℕ → ℕ
differences word other places = count_by (λ p. not (word p == other p)) places

-- in how many ways s of m things can be chosen
unfoldable pub binomial : ℕ → ℕ → ℕ
binomial m zero = 1
binomial zero (suc s) = 0
binomial (suc m) (suc s) = binomial m s + binomial m (suc s)

-- the product of u and v of two words of h letters that agree at m places
abbrev pub by_agreement : ℕ → ℕ → ℕ
by_agreement h m = sum_by (λ s. weight h s * binomial m s) sizes % 6
