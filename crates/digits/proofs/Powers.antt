-- Powers of g: exponents add, and only what they leave modulo 6 counts. So products of powers are powers.
use Rattle.std.proofs.Common.{◌≡◌, ℕ, zero, suc, ◌+◌, ◌-◌, ◌*◌, ◌%◌, List, sym, refl, ap, ap₂, ◌∙◌, one-mul, mul-one, zero-mul, suc-mul, arith}
use Rattle.std.proofs.lemmas.Bool.Decides.{nat_tests}
use Rattle.digits.specs.Elements.{power, times, times_digit}
use Rattle.digits.specs.Rows.{row}
use Rattle.digits.specs.Sums.{total, same}
use Rattle.digits.specs.Ring.{g, to_the, product_of}
use Rattle.digits.proofs.RowLaws.{at_row, row_cong}
use Rattle.digits.proofs.Turning.{at_power, at-power-times}

-- two tests that pass together are one digit
same_when : (m n i j : ℕ) → (m ≡ n → i ≡ j) → (i ≡ j → m ≡ n) → same m n ≡ same i j
same_when m n i j there back = grind (arith, nat_tests)

-- only what an exponent leaves modulo 6 counts
pub power_mod : (s t : ℕ) → s % 6 ≡ t % 6 → power 1 s ≡ power 1 t
power_mod s t e = ap (λ d. row 6 (λ r. 1 * same d r % 6)) e

-- exponents add
pub power-times : (s t : ℕ) → times (power 1 s) (power 1 t) ≡ power 1 (s + t)
power-times s t =
    row_cong 6 (times_digit (power 1 s) (power 1 t)) (λ r. 1 * same ((s + t) % 6) r % 6)
    (λ r h.
    sym (at_row 6 (times_digit (power 1 s) (power 1 t)) r h)
    ∙ at-power-times s r (power 1 t) h
    ∙ ap (λ d. d % 6)
    (at_power t ((r + 6 - s % 6) % 6) (omega arith)
    ∙ same_when (t % 6) ((r + 6 - s % 6) % 6) ((s + t) % 6) r (λ e. omega arith) (λ e. omega arith)
    ∙ sym (one-mul (same ((s + t) % 6) r))))

-- a power of a power
pub to_the-power : (s n : ℕ) → to_the (power 1 s) n ≡ power 1 (n * s)
unfolding to_the
to_the-power s zero = ap (λ m. power 1 m) (sym (zero-mul s))
to_the-power s (suc n) =
    ap (λ e. times e (power 1 s)) (to_the-power s n) ∙ power-times (n * s) s ∙ ap (λ m. power 1 m) (sym (suc-mul n s))

-- g multiplied by itself so many times is the power of g
pub to_the-g : (n : ℕ) → to_the g n ≡ power 1 n
to_the-g n = to_the-power 1 n ∙ ap (λ m. power 1 m) (mul-one n)

-- exponents add, and may be reduced
pub g-plus : (s t : ℕ) → to_the g ((s + t) % 6) ≡ times (to_the g s) (to_the g t)
g-plus s t = simp (to_the-g, power-times) (power_mod ((s + t) % 6) (s + t) (omega arith))

-- a product of powers
pub product_of-powers : (k : ℕ) (x : ℕ → List ℕ) (e : ℕ → ℕ) → ((c : ℕ) → x c ≡ power 1 (e c)) →
    product_of k x ≡ power 1 (total k e)
unfolding product_of total
product_of-powers zero x e h = refl
product_of-powers (suc k) x e h = ap₂ times (product_of-powers k x e h) (h k) ∙ power-times (total k e) (e k)
