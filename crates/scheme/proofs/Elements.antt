-- The elements of a sheet's coordinates, which follow that of the value.
use Rattle.std.proofs.Common.{◌≡◌, ℕ, ◌+◌, ◌*◌, ◌%◌, List, drop, ap, ◌∙◌, arith}
use Rattle.std.proofs.lemmas.List.{get_or-drop}
use Rattle.digits.specs.Elements.{scaled, element_at}
use Rattle.digits.specs.Rows.{at}
use Rattle.digits.proofs.RowLaws.{row_cong}
use Rattle.digits.proofs.RingSums.{sum_cong}
use Rattle.family.specs.ElementProducts.{element_product}
use Rattle.family.specs.Vectors.{Vectors}
use Rattle.scheme.specs.Recovery.{element_of, slope}

-- the product of v(t) and what stands in a sheet from its seventh place on
pub product_slope : (f : Vectors) (t : ℕ) (sheet : List ℕ) → element_product f.dim (f.v t) (drop 6 sheet) ≡ slope f t sheet
product_slope f t sheet =
    sum_cong f.dim (λ c. scaled (f.v t c) (element_at (drop 6 sheet) (6 * c))) (λ c. scaled (f.v t c) (element_of sheet c))
    (λ c l.
    ap (scaled (f.v t c))
    (row_cong 6 (λ r. at (drop 6 sheet) (6 * c + r) % 6) (λ r. at sheet (6 * (1 + c) + r) % 6)
    (λ r b. ap (λ d. d % 6) (get_or-drop 6 sheet (6 * c + r) 0 ∙ ap (at sheet) {x = 6 + (6 * c + r)} {y = 6 * (1 + c) + r} (omega arith)))))
