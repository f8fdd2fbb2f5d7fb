-- At the query's point the table's polynomial is the sheet's value, and its derivative the sheet's elements.
use Rattle.std.proofs.Common.{◌≡◌, ℕ, ◌*◌, ◌%◌, ◌<◌, List, sym, ap, ◌∙◌}
use Rattle.std.proofs.Math.Nat.{mod-mod}
use Rattle.digits.specs.Elements.{scaled}
use Rattle.digits.specs.Rows.{at}
use Rattle.digits.specs.Sums.{total}
use Rattle.digits.specs.Ring.{g, to_the}
use Rattle.digits.proofs.Powers.{to_the-power, to_the-g, product_of-powers, power_mod}
use Rattle.digits.proofs.RingSums.{sum_cong}
use Rattle.family.specs.Vectors.{Vectors}
use Rattle.scheme.specs.Answers.{exponent, sheet_of}
use Rattle.scheme.specs.Published.{monomial, polynomial, derivative, point}
use Rattle.scheme.specs.Recovery.{value, element_of}
use Rattle.scheme.proofs.AnswerSums.{answer_sum, value_sum, element_sum}

-- at a query's point a monomial is a power of g
monomial_power : (f : Vectors) (p : List ℕ) (i : ℕ) → monomial f.dim (f.u i) (point p) ≡ to_the g (exponent f p i)
monomial_power f p i =
    let sum : ℕ = total f.dim (λ c. f.u i c * at p c) in
    product_of-powers f.dim (λ c. to_the (to_the g (at p c)) (f.u i c)) (λ c. f.u i c * at p c)
    (λ c. ap (λ x. to_the x (f.u i c)) (to_the-g (at p c)) ∙ to_the-power (at p c) (f.u i c))
    ∙ power_mod sum (sum % 6) (sym (mod-mod sum 6))
    ∙ sym (to_the-g (exponent f p i))

polynomial_sum : (f : Vectors) (w : ℕ → ℕ) (p : List ℕ) → polynomial f w (point p) ≡ answer_sum f w p
polynomial_sum f w p =
    sum_cong f.count (λ i. scaled (w i) (monomial f.dim (f.u i) (point p))) (λ i. scaled (w i) (to_the g (exponent f p i)))
    (λ i l. ap (scaled (w i)) (monomial_power f p i))

pub value_polynomial : (f : Vectors) (a : ℕ → ℕ) (p : List ℕ) → value (sheet_of f a p) ≡ polynomial f a (point p)
value_polynomial f a p = value_sum f a p ∙ sym (polynomial_sum f a p)

pub element_derivative : (f : Vectors) (a : ℕ → ℕ) (p : List ℕ) (c : ℕ) → c < f.dim →
    element_of (sheet_of f a p) c ≡ derivative f a (point p) c
element_derivative f a p c b = element_sum f a p c b ∙ sym (polynomial_sum f (λ i. a i * f.u i c) p)
