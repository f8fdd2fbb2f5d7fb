-- What the two sheets of one table come to: D times the share of the position sought, so, once turned, D times its entry.
use Rattle.std.proofs.Common.{◌≡◌, ℕ, ◌+◌, ◌%◌, ◌<◌, List, ap, ap₂, ◌∙◌, Some, arith}
use Rattle.digits.specs.Elements.{power, plus, times, scaled, turned}
use Rattle.digits.specs.Rows.{at, row}
use Rattle.digits.proofs.RowLaws.{row_cong}
use Rattle.digits.proofs.Turning.{at-power-times, turned-scaled}
use Rattle.digits.proofs.Additive.{additive_scaled}
use Rattle.digits.proofs.Powers.{to_the-g}
use Rattle.digits.proofs.RingLaws.{times_comm, additive_times}
use Rattle.family.specs.Vectors.{Vectors, MatchingFamily}
use Rattle.scheme.specs.Answers.{sheet_of}
use Rattle.scheme.specs.Published.{share}
use Rattle.scheme.specs.Queries.{second_query, shift}
use Rattle.scheme.specs.Recovery.{C1, C2, C3, C4, D, sheets_weighed, found, read_entry}
use Rattle.scheme.proofs.Equations.{first_value_is, first_slope_is, second_value_is, second_slope_is, own_share_is}
use Rattle.scheme.proofs.Shares.{share_element}
use Rattle.scheme.proofs.Solving.{shares_weighed}

-- D times a power of g, turned by it, is D
turned_back : (s : ℕ) → turned s (times D (power 1 s)) ≡ row 6 (λ r. at D r % 6)
turned_back s =
    ap (turned s) (times_comm D (power 1 s))
    ∙ row_cong 6 (λ r. at (times (power 1 s) D) ((r + s) % 6)) (λ r. at D r % 6)
    (λ r h. at-power-times s ((r + s) % 6) D (omega arith) ∙ ap (λ q. at D q % 6) (omega arith))

-- each entry is read from that many times D
pub read_scaled : (a : ℕ) → a < 6 → read_entry (scaled a D) ≡ Some a
read_scaled a h = grind arith

module _ (f : Vectors) (family : MatchingFamily f) (t : ℕ) (h : t < f.count) (a : ℕ → ℕ) (z : List ℕ) where
  pub solved_is : sheets_weighed f t (sheet_of f a z) (sheet_of f a (second_query f t z)) ≡ times D (share f t a z 0)
  unfolding sheets_weighed
  solved_is =
      ap₂ plus
      (ap₂ (λ x y. plus (times C1 x) (times C2 y)) (first_value_is f family t h a z) (first_slope_is f family t h a z))
      (ap₂ (λ x y. plus (times C3 x) (times C4 y)) (second_value_is f family t h a z) (second_slope_is f family t h a z))
      ∙ shares_weighed (share f t a z) (share_element f t a z)

  pub found_entry : found f t (shift f t z) (sheet_of f a z) (sheet_of f a (second_query f t z)) ≡ scaled (a t) D
  found_entry =
      let s : ℕ = shift f t z in
      ap (turned s)
      (solved_is
      ∙ ap (times D) (own_share_is f family t h a z ∙ ap (scaled (a t)) (to_the-g s))
      ∙ additive_scaled (times D) (additive_times D) (a t) (power 1 s))
      ∙ turned-scaled s (a t) (times D (power 1 s))
      ∙ ap (scaled (a t)) (turned_back s)
