-- Sums of elements, and multiples: their digits, and the laws of adding.
use Rattle.std.proofs.Common.{◌≡◌, ℕ, zero, suc, ◌+◌, ◌*◌, ◌%◌, ◌<◌, List, sym, refl, ap, ap₂, ◌∙◌, add-one, arith}
use Rattle.digits.specs.Elements.{zero_element, plus, scaled}
use Rattle.digits.specs.Rows.{at, row}
use Rattle.digits.specs.Sums.{total}
use Rattle.digits.specs.Ring.{sum_of}
use Rattle.digits.proofs.RowLaws.{at_row, row_cong}
use Rattle.digits.proofs.SumLaws.{total_one, total_mod, total_scale, mul_same}

pub at_plus : (x y : List ℕ) (r : ℕ) → r < 6 → at (plus x y) r ≡ (at x r + at y r) % 6
at_plus x y r l = at_row 6 (λ q. (at x q + at y q) % 6) r l

pub at_scaled : (n : ℕ) (x : List ℕ) (r : ℕ) → r < 6 → at (scaled n x) r ≡ n * at x r % 6
at_scaled n x r l = at_row 6 (λ q. n * at x q % 6) r l

-- An element of digits is one to which adding nothing changes nothing: a row of six remainders is such.
pub zero-plus-row : (f : ℕ → ℕ) → plus zero_element (row 6 (λ r. f r % 6)) ≡ row 6 (λ r. f r % 6)
zero-plus-row f =
    row_cong 6 (λ r. (at zero_element r + at (row 6 (λ q. f q % 6)) r) % 6) (λ r. f r % 6)
    (λ r h. omega (arith, at_row 6 (λ q. 0) r h, at_row 6 (λ q. f q % 6) r h))

-- the inner two of four terms may change places
pub plus-plus : (a b c d : List ℕ) → plus (plus a b) (plus c d) ≡ plus (plus a c) (plus b d)
plus-plus a b c d =
    row_cong 6 (λ r. (at (plus a b) r + at (plus c d) r) % 6) (λ r. (at (plus a c) r + at (plus b d) r) % 6)
    (λ r h. omega (arith, at_plus a b r h, at_plus c d r h, at_plus a c r h, at_plus b d r h))

-- no term, and one term more: the start and the step of a loop that sums
pub sum_start : (e : ℕ → List ℕ) → zero_element ≡ sum_of 0 e
unfolding sum_of
sum_start e = refl

pub sum_more : (n : ℕ) (e : ℕ → List ℕ) (sum term : List ℕ) → sum ≡ sum_of n e → term ≡ e n → plus sum term ≡ sum_of (n + 1) e
unfolding sum_of
sum_more n e sum term so_far here = ap₂ plus so_far here ∙ ap (λ m. sum_of m e) (sym (add-one n))

-- term by term
pub sum_cong : (n : ℕ) (e f : ℕ → List ℕ) → ((i : ℕ) → i < n → e i ≡ f i) → sum_of n e ≡ sum_of n f
unfolding sum_of
sum_cong zero e f h = refl
sum_cong (suc n) e f h = ap₂ plus (sum_cong n e f (λ i l. h i (omega arith))) (h n (omega arith))

pub sum_plus : (n : ℕ) (e f : ℕ → List ℕ) → sum_of n (λ i. plus (e i) (f i)) ≡ plus (sum_of n e) (sum_of n f)
unfolding sum_of
sum_plus zero e f = refl
sum_plus (suc n) e f = ap (λ s. plus s (plus (e n) (f n))) (sum_plus n e f) ∙ plus-plus (sum_of n e) (sum_of n f) (e n) (f n)

sum_zero : (n : ℕ) → zero_element ≡ sum_of n (λ i. zero_element)
unfolding sum_of
sum_zero zero = refl
sum_zero (suc n) = ap (λ s. plus s zero_element) (sum_zero n)

-- a sum of sums in either order
pub sum_swap : (n m : ℕ) (e : ℕ → ℕ → List ℕ) → sum_of n (λ i. sum_of m (λ j. e i j)) ≡ sum_of m (λ j. sum_of n (λ i. e i j))
unfolding sum_of
sum_swap zero m e = sum_zero m
sum_swap (suc n) m e =
    ap (λ s. plus s (sum_of m (λ j. e n j))) (sum_swap n m e) ∙ sym (sum_plus m (λ j. sum_of n (λ i. e i j)) (λ j. e n j))

-- a sum digit by digit
pub sum_of-row : (n : ℕ) (e : ℕ → List ℕ) → sum_of n e ≡ row 6 (λ r. total n (λ i. at (e i) r) % 6)
unfolding sum_of total
sum_of-row zero e = refl
sum_of-row (suc n) e =
    ap (λ s. plus s (e n)) (sum_of-row n e)
    ∙ row_cong 6 (λ r. (at (row 6 (λ q. total n (λ i. at (e i) q) % 6)) r + at (e n) r) % 6) (λ r. (total n (λ i. at (e i) r) + at (e n) r) % 6)
    (λ r h. omega (arith, at_row 6 (λ q. total n (λ i. at (e i) q) % 6) r h))

-- so a sum is an element of digits
pub sum_of-element : (n : ℕ) (e : ℕ → List ℕ) → plus zero_element (sum_of n e) ≡ sum_of n e
sum_of-element n e =
    ap (plus zero_element) (sum_of-row n e) ∙ zero-plus-row (λ r. total n (λ i. at (e i) r)) ∙ sym (sum_of-row n e)

-- a sum of which one term is left
pub sum_only : (n t : ℕ) (e : ℕ → List ℕ) → t < n → ((i : ℕ) → i < n → (i ≡ t → ⊥) → e i ≡ zero_element) →
    sum_of n e ≡ plus zero_element (e t)
sum_only n t e l h =
    sum_of-row n e
    ∙ row_cong 6 (λ r. total n (λ i. at (e i) r) % 6) (λ r. (at zero_element r + at (e t) r) % 6)
    (λ r b.
    let nothing : at zero_element r ≡ 0 = at_row 6 (λ q. 0) r b in
    total_one n t (λ i. at (e i) r) l (λ i k ne. ap (λ x. at x r % 6) (h i k ne) ∙ omega arith) ∙ omega arith)

-- multiples of one element
pub sum_scaled : (k : ℕ) (w : ℕ → ℕ) (n : ℕ) (x : List ℕ) → total k w % 6 ≡ n % 6 → sum_of k (λ c. scaled (w c) x) ≡ scaled n x
sum_scaled k w n x e =
    sum_of-row k (λ c. scaled (w c) x)
    ∙ row_cong 6 (λ r. total k (λ c. at (scaled (w c) x) r) % 6) (λ r. n * at x r % 6)
    (λ r h.
    total_mod k (λ c. at (scaled (w c) x) r) (λ c. at x r * w c) (λ c l. omega (arith, at_scaled (w c) x r h))
    ∙ omega (arith, total_scale k (at x r) w, mul_same (at x r) (total k w) n e))
