-- The product of two elements, digit by digit: to each i there is one j with i + j = r modulo 6.
use Rattle.std.proofs.Common.{◌≡◌, ℕ, ◌+◌, ◌-◌, ◌*◌, ◌%◌, ◌<◌, List, length, sym, ap, ◌∙◌, arith}
use Rattle.digits.specs.Elements.{times, times_digit}
use Rattle.digits.specs.Rows.{at}
use Rattle.digits.specs.Sums.{total, product, same}
use Rattle.digits.proofs.RowLaws.{at_row}
use Rattle.digits.proofs.Sums.{total_cong, total_only, kept, dropped}

-- what digit i of the first factor adds to digit r: it meets the one j that is r less i
partner : (a : ℕ) (f : List ℕ) (r i : ℕ) → r < 6 → i < 6 → total 6 (λ j. a * at f j * same ((i + j) % 6) r) ≡ a * at f ((r + 6 - i) % 6)
partner a f r i hr hi =
    let t : ℕ = (r + 6 - i) % 6 in
    let meets : (i + t) % 6 ≡ r = omega arith in
    total_only 6 t (λ j. a * at f j * same ((i + j) % 6) r) (omega arith)
    (λ j l ne. dropped (a * at f j) ((i + j) % 6) r (λ e. ne (omega arith)))
    ∙ kept (a * at f t) ((i + t) % 6) r meets

-- so the sum over all pairs is a sum over the digits of the first factor
pub pairs_single : (e f : List ℕ) (r : ℕ) → r < 6 →
    total 6 (λ i. total 6 (λ j. at e i * at f j * same ((i + j) % 6) r)) ≡ total 6 (λ i. at e i * at f ((r + 6 - i) % 6))
pairs_single e f r h =
    total_cong 6 (λ i. total 6 (λ j. at e i * at f j * same ((i + j) % 6) r)) (λ i. at e i * at f ((r + 6 - i) % 6)) (λ i l. partner (at e i) f r i h l)

pub times_digit_single : (e f : List ℕ) (r : ℕ) → r < 6 → times_digit e f r ≡ total 6 (λ i. at e i * at f ((r + 6 - i) % 6)) % 6
unfolding times_digit
times_digit_single e f r h = ap (λ s. s % 6) (pairs_single e f r h)

pub at-times : (e f : List ℕ) (r : ℕ) → r < 6 → at (times e f) r ≡ total 6 (λ i. at e i * at f ((r + 6 - i) % 6)) % 6
at-times e f r h = at_row 6 (times_digit e f) r h ∙ times_digit_single e f r h

-- so where each digit of the first factor has its partner beside it, the product along both rows is digit r
pub partners_product : (e f g : List ℕ) (r : ℕ) → length e ≡ 6 → r < 6 →
    ((i : ℕ) → i < 6 → at g i ≡ at f ((r + 6 - i) % 6)) → product (length e) (at e) (at g) ≡ times_digit e f r
partners_product e f g r six h partners =
    let terms = total_cong 6 (λ i. at e i * at g i) (λ i. at e i * at f ((r + 6 - i) % 6))
    (λ i l. ap (λ d. at e i * d) (partners i l)) in
    ap (λ n. product n (at e) (at g)) six ∙ ap (λ s. s % 6) terms ∙ sym (times_digit_single e f r h)
