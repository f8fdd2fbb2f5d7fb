-- What an answer comes to: its value, its elements and its slope are sums of multiples of powers of g.
use Rattle.std.proofs.Common.{◌≡◌, ℕ, ◌+◌, ◌*◌, ◌%◌, ◌<◌, List, sym, ap, ◌∙◌, zero-add, arith}
use Rattle.std.proofs.Math.Nat.{mod-mod}
use Rattle.std.proofs.lemmas.Nat.{mul-mod_second}
use Rattle.digits.specs.Elements.{scaled, element_at}
use Rattle.digits.specs.Rows.{at}
use Rattle.digits.specs.Sums.{total}
use Rattle.digits.specs.Ring.{g, to_the, sum_of}
use Rattle.digits.proofs.Sums.{total_cong}
use Rattle.digits.proofs.SumLaws.{total_scale}
use Rattle.digits.proofs.Additive.{additive_sum}
use Rattle.digits.proofs.RingLaws.{additive_number, scaled-scaled}
use Rattle.digits.proofs.Powers.{to_the-g}
use Rattle.digits.proofs.PowerSums.{powers_row}
use Rattle.digits.proofs.RingSums.{sum_cong, sum_swap, sum_scaled}
use Rattle.family.specs.Vectors.{Vectors, pairing}
use Rattle.scheme.specs.Answers.{exponent, power_sum, sheet_of}
use Rattle.scheme.specs.Recovery.{value, element_of, slope}
use Rattle.scheme.proofs.Sheets.{at_value, at_coordinate}

-- the sum of all w(i) g^e(i), for the query p
abbrev pub answer_sum : Vectors → (ℕ → ℕ) → List ℕ → List ℕ
answer_sum f w p = sum_of f.count (λ i. scaled (w i) (to_the g (exponent f p i)))

-- a part of a sheet whose digits are those of a power sum is this sum
part_sum : (f : Vectors) (w : ℕ → ℕ) (p sheet : List ℕ) (place : ℕ) → ((r : ℕ) → r < 6 → at sheet (place + r) ≡ power_sum f w p r) →
    element_at sheet place ≡ answer_sum f w p
part_sum f w p sheet place is =
    powers_row f.count w (exponent f p) (λ r. at sheet (place + r) % 6) (λ r h. ap (λ d. d % 6) (is r h) ∙ simp mod-mod) ∙ sym (simp to_the-g)

pub value_sum : (f : Vectors) (a : ℕ → ℕ) (p : List ℕ) → value (sheet_of f a p) ≡ answer_sum f a p
value_sum f a p = part_sum f a p (sheet_of f a p) 0 (λ r h. rw zero-add (at_value f a p r h))

pub element_sum : (f : Vectors) (a : ℕ → ℕ) (p : List ℕ) (c : ℕ) → c < f.dim →
    element_of (sheet_of f a p) c ≡ answer_sum f (λ i. a i * f.u i c) p
element_sum f a p c b = part_sum f (λ i. a i * f.u i c) p (sheet_of f a p) (6 * (1 + c)) (λ r h. at_coordinate f a p c r b h)

-- the factors u(i)c v(t)c of a position, over all coordinates
factors : (f : Vectors) (a i t : ℕ) → total f.dim (λ c. f.v t c * (a * f.u i c)) % 6 ≡ a * pairing f i t % 6
factors f a i t =
    let sum : ℕ = total f.dim (λ c. f.u i c * f.v t c) in
    let by_coordinate = total_cong f.dim (λ c. f.v t c * (a * f.u i c)) (λ c. a * (f.u i c * f.v t c)) (λ c h. omega arith) in
    omega (arith, total_scale f.dim a (λ c. f.u i c * f.v t c), mul-mod_second a sum 6)

pub slope_sum : (f : Vectors) (t : ℕ) (a : ℕ → ℕ) (p : List ℕ) → slope f t (sheet_of f a p) ≡ answer_sum f (λ i. a i * pairing f i t) p
slope_sum f t a p =
    let power_of : ℕ → List ℕ = λ i. to_the g (exponent f p i) in
    let part : ℕ → ℕ → List ℕ = λ c i. scaled (f.v t c) (scaled (a i * f.u i c) (power_of i)) in
    sum_cong f.dim (λ c. scaled (f.v t c) (element_of (sheet_of f a p) c)) (λ c. sum_of f.count (part c))
    (λ c h.
    ap (scaled (f.v t c)) (element_sum f a p c h)
    ∙ additive_sum (scaled (f.v t c)) (additive_number (f.v t c)) f.count (λ i. scaled (a i * f.u i c) (power_of i)))
    ∙ sum_swap f.dim f.count part
    ∙ sum_cong f.count (λ i. sum_of f.dim (λ c. part c i)) (λ i. scaled (a i * pairing f i t) (power_of i))
    (λ i h.
    sum_cong f.dim (λ c. part c i) (λ c. scaled (f.v t c * (a i * f.u i c)) (power_of i)) (λ c l. scaled-scaled (f.v t c) (a i * f.u i c) (power_of i))
    ∙ sum_scaled f.dim (λ c. f.v t c * (a i * f.u i c)) (a i * pairing f i t) (power_of i) (factors f (a i) i t))
