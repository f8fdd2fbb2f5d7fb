-- Sums of powers of g: every element is one, so what an additive map does to the powers of g says what it does to all.
use Rattle.std.proofs.Common.{◌≡◌, ℕ, ◌+◌, ◌*◌, ◌%◌, ◌<◌, List, sym, ap, ◌∙◌, zero-add, arith}
use Rattle.digits.specs.Elements.{zero_element, power, plus, times, scaled}
use Rattle.digits.specs.Rows.{at, row}
use Rattle.digits.specs.Sums.{total, same}
use Rattle.digits.specs.Ring.{one_element, sum_of}
use Rattle.digits.proofs.RowLaws.{at_row, row_cong}
use Rattle.digits.proofs.Sums.{total_only, kept, dropped}
use Rattle.digits.proofs.SumLaws.{total_mod}
use Rattle.digits.proofs.Turning.{at_power}
use Rattle.digits.proofs.Additive.{Additive, additive_same, additive_sum, additive_scaled}
use Rattle.digits.proofs.Powers.{power-times}
use Rattle.digits.proofs.RingLaws.{additive_times}
use Rattle.digits.proofs.RingSums.{at_scaled, sum_of-row, sum_cong}

-- the sum of all w(i) g^e(i), digit by digit
pub powers_row : (n : ℕ) (w e digit : ℕ → ℕ) → ((r : ℕ) → r < 6 → digit r ≡ total n (λ i. w i * same (e i % 6) r) % 6) →
    row 6 digit ≡ sum_of n (λ i. scaled (w i) (power 1 (e i)))
powers_row n w e digit is =
    row_cong 6 digit (λ r. total n (λ i. at (scaled (w i) (power 1 (e i))) r) % 6)
    (λ r h.
    is r h
    ∙ total_mod n (λ i. w i * same (e i % 6) r) (λ i. at (scaled (w i) (power 1 (e i))) r)
    (λ i l. omega (arith, at_scaled (w i) (power 1 (e i)) r h, ap (λ d. w i * d) (at_power (e i) r h))))
    ∙ sym (sum_of-row n (λ i. scaled (w i) (power 1 (e i))))

-- an element's digits are its factors at the powers of g
expanded : (e : List ℕ) → plus zero_element e ≡ sum_of 6 (λ s. scaled (at e s) (power 1 s))
expanded e =
    powers_row 6 (at e) (λ s. s) (λ r. (at zero_element r + at e r) % 6)
    (λ r h.
    let one = kept (at e r) (r % 6) r (omega arith) in
    let only = total_only 6 r (λ s. at e s * same (s % 6) r) h (λ s l ne. dropped (at e s) (s % 6) r (λ k. ne (omega arith))) in
    omega (arith, at_row 6 (λ q. 0) r h))

-- two additive maps that agree at the powers of g agree at each element of digits
pub agree_at_powers : (m o : List ℕ → List ℕ) → Additive m → Additive o → ((s : ℕ) → s < 6 → m (power 1 s) ≡ o (power 1 s)) →
    (e : List ℕ) → plus zero_element e ≡ e → m e ≡ o e
agree_at_powers m o am ao each e is =
    ap m (sym is ∙ expanded e)
    ∙ additive_sum m am 6 (λ s. scaled (at e s) (power 1 s))
    ∙ sum_cong 6 (λ s. m (scaled (at e s) (power 1 s))) (λ s. o (scaled (at e s) (power 1 s)))
    (λ s h. additive_scaled m am (at e s) (power 1 s) ∙ ap (scaled (at e s)) (each s h) ∙ sym (additive_scaled o ao (at e s) (power 1 s)))
    ∙ sym (additive_sum o ao 6 (λ s. scaled (at e s) (power 1 s)))
    ∙ ap o (sym (expanded e) ∙ is)

-- 1 times an element of digits
pub one_times : (x : List ℕ) → plus zero_element x ≡ x → x ≡ times one_element x
one_times x is =
    sym (agree_at_powers (times one_element) (λ y. y) (additive_times one_element) additive_same (λ s h. power-times 0 s ∙ ap (power 1) (zero-add s)) x is)
