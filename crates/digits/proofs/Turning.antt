-- Turning an element is dividing it by a power of g.
use Rattle.std.proofs.Common.{◌≡◌, ℕ, ◌+◌, ◌-◌, ◌*◌, ◌%◌, ◌<◌, List, length, sym, refl, ap, ◌∙◌, one-mul, zero-mul, arith}
use Rattle.std.proofs.lemmas.Bool.Decides.{nat_tests}
use Rattle.std.proofs.lemmas.List.FromFn.{fill_by_all}
use Rattle.digits.specs.Elements.{power, times, scaled, turned}
use Rattle.digits.specs.Rows.{at, Digits}
use Rattle.digits.specs.Sums.{same}
use Rattle.digits.proofs.RowLaws.{at_row, row_cong}
use Rattle.digits.proofs.DigitRows.{digits-row}
use Rattle.digits.proofs.Multiplying.{at-times}
use Rattle.digits.proofs.RingSums.{at_scaled}
use Rattle.digits.proofs.Sums.{total_only, same_yes, same_no}

-- the power s of g has a 1 at s modulo 6 and 0 elsewhere
pub at_power : (s r : ℕ) → r < 6 → at (power 1 s) r ≡ same (s % 6) r
at_power s r h = at_row 6 (λ q. 1 * same (s % 6) q % 6) r h ∙ grind (arith, nat_tests)

-- digit r of a power of g times an element is that element's digit so far below r
pub at-power-times : (s r : ℕ) (x : List ℕ) → r < 6 → at (times (power 1 s) x) r ≡ at x ((r + 6 - s % 6) % 6) % 6
at-power-times s r x h =
    at-times (power 1 s) x r h
    ∙ ap (λ d. d % 6)
    (total_only 6 (s % 6) (λ i. at (power 1 s) i * at x ((r + 6 - i) % 6)) (omega arith)
    (λ i l ne. ap (λ d. d * at x ((r + 6 - i) % 6)) (at_power s i l ∙ same_no (s % 6) i (λ e. ne (sym e))) ∙ zero-mul (at x ((r + 6 - i) % 6)))
    ∙ ap (λ d. d * at x ((r + 6 - s % 6) % 6)) (at_power s (s % 6) (omega arith) ∙ same_yes (s % 6) (s % 6) refl) ∙ one-mul (at x ((r + 6 - s % 6) % 6)))

-- what was turned by s, times the power s of g, is the element again
pub turned_divides : (s : ℕ) (e x : List ℕ) → Digits e → x ≡ turned s e → (r : ℕ) → r < 6 → at (times (power 1 s) x) r ≡ at e r
turned_divides s e x d is r h =
    let back : ((r + 6 - s % 6) % 6 + s) % 6 ≡ r = omega arith in
    at-power-times s r x h
    ∙ ap (λ y. at y ((r + 6 - s % 6) % 6) % 6) is
    ∙ ap (λ a. a % 6) (at_row 6 (λ q. at e ((q + s) % 6)) ((r + 6 - s % 6) % 6) (omega arith))
    ∙ ap (λ q. at e q % 6) back
    ∙ omega (arith, d r)

-- six digits, digit r of which is the digit of e that stands s above r, are e divided by the power s of g
pub turned_each : (s : ℕ) (e x : List ℕ) → length x ≡ 6 →
    ((r : ℕ) → r < 6 → at x r ≡ at e ((r + s % 6) % 6)) → x ≡ turned s e
turned_each s e x six each =
    fill_by_all (λ r. at e ((r + s) % 6)) x 6 0 six (λ r h. each r h ∙ ap (at e) (omega arith))

pub digits-turned : (s : ℕ) (e : List ℕ) → Digits e → Digits (turned s e)
digits-turned s e d = digits-row 6 (λ r. at e ((r + s) % 6)) (λ r h. d ((r + s) % 6))

-- turning goes digit by digit, so a number of times may be taken after it
pub turned-scaled : (s a : ℕ) (e : List ℕ) → turned s (scaled a e) ≡ scaled a (turned s e)
turned-scaled s a e =
    row_cong 6 (λ r. at (scaled a e) ((r + s) % 6)) (λ r. a * at (turned s e) r % 6)
    (λ r h.
    at_scaled a e ((r + s) % 6) (omega arith)
    ∙ ap (λ d. a * d % 6) (sym (at_row 6 (λ q. at e ((q + s) % 6)) r h)))
