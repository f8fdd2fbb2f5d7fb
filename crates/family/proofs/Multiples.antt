-- A vector that is 0 throughout, times the elements of all coordinates.
use Rattle.std.proofs.Common.{◌≡◌, ℕ, ◌*◌, ◌%◌, List, sym, ap, ◌∙◌, zero-mul, arith}
use Rattle.digits.specs.Elements.{zero_element, scaled, element_at}
use Rattle.digits.specs.Rows.{at}
use Rattle.digits.specs.Ring.{sum_of}
use Rattle.digits.specs.Sums.{total}
use Rattle.digits.proofs.RowLaws.{row_cong}
use Rattle.digits.proofs.RingSums.{at_scaled, sum_of-row}
use Rattle.digits.proofs.SumLaws.{total_nil}
use Rattle.family.specs.ElementProducts.{element_product}

multiples_none : (k : ℕ) (v : ℕ → ℕ) (e : ℕ → List ℕ) → ((c : ℕ) → v c ≡ 0) → zero_element ≡ sum_of k (λ c. scaled (v c) (e c))
multiples_none k v e h =
    row_cong 6 (λ r. 0) (λ r. total k (λ c. at (scaled (v c) (e c)) r) % 6)
    (λ r l.
    sym (total_nil k (λ c. at (scaled (v c) (e c)) r)
    (λ c b. omega (arith, at_scaled (v c) (e c) r l, ap (λ a. a * at (e c) r) (h c), zero-mul (at (e c) r)))))
    ∙ sym (sum_of-row k (λ c. scaled (v c) (e c)))

pub element_product_none : (k : ℕ) (v : ℕ → ℕ) (xs e : List ℕ) → e ≡ zero_element → ((c : ℕ) → v c ≡ 0) → e ≡ element_product k v xs
element_product_none k v xs e is h = is ∙ multiples_none k v (λ c. element_at xs (6 * c)) h
