-- Binomials: Pascal's rule, and those that count places and pairs of places.
use Rattle.std.specs.Prelude.{◌≡◌, ℕ, zero, suc, ◌+◌, ◌-◌, ◌*◌, ◌/◌, Bool, true, false, cond, refl}
use Rattle.std.proofs.Common.{sym, ap, ◌∙◌, zero-add, zero-mul, one-mul, suc-mul, mul-suc, one-add, arith}
use Rattle.words.specs.Agreement.{binomial}

-- one thing more, or none
pub pascal : (b : Bool) (m s : ℕ) → binomial (cond b 1 0 + m) (suc s) ≡ cond b 1 0 * binomial m s + binomial m (suc s)
unfolding binomial
pascal true m s =
    ap (λ n. binomial n (suc s)) (one-add m) ∙ ap (λ a. a + binomial m (suc s)) (sym (one-mul (binomial m s)))
pascal false m s =
    ap (λ n. binomial n (suc s)) (zero-add m) ∙ sym (ap (λ a. a + binomial m (suc s)) (zero-mul (binomial m s)) ∙ zero-add (binomial m (suc s)))

pub binomial_none : (m : ℕ) → binomial m 0 ≡ 1
unfolding binomial
binomial_none m = refl

pub binomial_one : (m : ℕ) → binomial m 1 ≡ m
unfolding binomial
binomial_one zero = refl
binomial_one (suc m) = ap (λ a. 1 + a) (binomial_one m) ∙ one-add m

twice_two : (m : ℕ) → 2 * binomial m 2 + m ≡ m * m
unfolding binomial
twice_two zero = refl
twice_two (suc m) = omega (arith, twice_two m, binomial_one m, suc-mul m (suc m), mul-suc m m)

pub binomial_two : (m : ℕ) → binomial m 2 ≡ m * (m - 1) / 2
unfolding binomial
binomial_two zero = refl
binomial_two (suc m) = omega (arith, twice_two (suc m), suc-mul m (suc m), mul-suc m m, suc-mul m (suc m - 1), ap (λ a. suc m * a) (suc_less m))
  where
    suc_less : (m : ℕ) → suc m - 1 ≡ m
    suc_less m = omega arith
