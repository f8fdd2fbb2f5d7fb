-- Dividing by an alphabet comes to multiplying by its inverse, in parts of 2^32.
use Rattle.std.proofs.Common.{◌≡◌, ℕ, ◌+◌, ◌*◌, ◌/◌, ◌%◌, ◌<◌, ◌≤◌, sym, ap, ◌∙◌, mul-le-mul, mul_comm, mul_assoc, arith}
use Rattle.std.proofs.Math.Nat.{add-mul, mul-add, le_refl}
use Rattle.std.proofs.lemmas.Nat.{div-add-mod', mod_below}

-- with d for the quotient, e for the remainder, and k for the inverse without the 1 that is added to it
module _ (q r k d e s : ℕ) (some : 2 ≤ q) (few : q ≤ 16) (small : r ≤ 1048576) (whole : k * q + s ≡ 4294967296) (over : s < q)
    (parts : d * q + e ≡ r) (rest : e < q) where
  by_parts : r * (k + 1) ≡ d * (k * q) + e * k + r
  by_parts =
      mul-add r k 1
      ∙ (let split : r * k ≡ d * q * k + e * k = ap (λ a. a * k) (sym parts) ∙ add-mul (d * q) e k in
      let turned : d * q * k ≡ d * (k * q) = mul_assoc d q k ∙ ap (λ a. d * a) (mul_comm q k) in
      omega arith)

  whole_times : d * (k * q) + d * s ≡ d * 4294967296
  whole_times = sym (mul-add d (k * q) s) ∙ ap (λ a. d * a) whole

  pub quotient : r * (k + 1) / 4294967296 ≡ d
  quotient =
      let lost : d * s ≤ d * q = mul-le-mul (le_refl d) (omega arith) in
      let left : (e + 1) * k ≤ q * k = mul-le-mul (omega arith) (le_refl k) in
      let left_is : (e + 1) * k ≡ e * k + k = add-mul e 1 k ∙ omega arith in
      let turned : q * k ≡ k * q = mul_comm q k in
      let large : k * q ≤ k * 16 = mul-le-mul (le_refl k) few in
      omega (arith, by_parts, whole_times)

pub divided : (q r m : ℕ) → 2 ≤ q → q ≤ 16 → r ≤ 1048576 → m ≡ 4294967296 / q + 1 → r * m / 4294967296 ≡ r / q
divided q r m some few small is =
    ap (λ a. r * a / 4294967296) is
    ∙ quotient q r (4294967296 / q) (r / q) (r % q) (4294967296 % q) some few small (div-add-mod' 4294967296 q)
    (mod_below 4294967296 q (omega arith)) (div-add-mod' r q) (mod_below r q (omega arith))
