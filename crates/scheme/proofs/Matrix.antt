-- The right sides of the four equations are their matrix times the column of the shares.
use Rattle.std.proofs.Common.{◌≡◌, ℕ, zero, suc, List, ap, ◌∙◌}
use Rattle.digits.specs.Elements.{zero_element, plus, times, scaled}
use Rattle.digits.specs.Ring.{one_element, g, to_the, sum_of}
use Rattle.digits.proofs.PowerSums.{one_times}
use Rattle.digits.proofs.RingLaws.{times_comm, scaled-times}
use Rattle.digits.proofs.RingSums.{sum_cong}
use Rattle.scheme.specs.Published.{allowed_product, right_side, coefficient}

pub side_matrix : (c : ℕ → List ℕ) → ((l : ℕ) → plus zero_element (c l) ≡ c l) →
    (y : ℕ) → right_side y c ≡ sum_of 4 (λ j. times (coefficient y j) (c (allowed_product j)))
side_matrix c is zero = sum_cong 4 _ _ (λ j h. one_times (c (allowed_product j)) (is (allowed_product j)))
side_matrix c is (suc zero) =
    sum_cong 4 _ _
    (λ j h.
    let l : ℕ = allowed_product j in
    ap (scaled l) (one_times (c l) (is l)) ∙ scaled-times l one_element (c l))
side_matrix c is (suc (suc zero)) = sum_cong 4 _ _ (λ j h. times_comm (c (allowed_product j)) (to_the g (allowed_product j)))
side_matrix c is (suc (suc (suc y))) =
    sum_cong 4 _ _
    (λ j h.
    let l : ℕ = allowed_product j in
    ap (scaled l) (times_comm (c l) (to_the g l)) ∙ scaled-times l (to_the g l) (c l))
