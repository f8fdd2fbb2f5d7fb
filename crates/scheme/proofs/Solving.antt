-- Solving the equations: the weights multiply c(0) by D and leave nothing of the other shares.
use Rattle.std.proofs.Common.{◌≡◌, ℕ, zero, suc, ◌<◌, List, sym, refl, ap, ap₂, ◌∙◌, arith}
use Rattle.digits.specs.Elements.{zero_element, power, plus, times, times_digit, scaled}
use Rattle.digits.specs.Sums.{total}
use Rattle.digits.specs.Ring.{g, to_the, sum_of}
use Rattle.digits.proofs.Additive.{Additive, additive_same, additive_then, additive_plus, additive_sum, additive_element}
use Rattle.digits.proofs.PowerSums.{agree_at_powers}
use Rattle.digits.proofs.RingLaws.{additive_times, additive_by, additive_number}
use Rattle.digits.proofs.RingSums.{sum_plus, sum_only}
use Rattle.scheme.specs.Published.{allowed_product, over_products}
use Rattle.scheme.specs.Recovery.{C1, C2, C3, C4, D, weighed}

-- what the weights make of a share x of the product l, which is in the four equations by 1, by l, by g^l and by l g^l
abbrev solved_part : ℕ → List ℕ → List ℕ
solved_part l x = weighed x (scaled l x) (times x (to_the g l)) (scaled l (times x (to_the g l)))

additive_two : (c d : List ℕ) (m o : List ℕ → List ℕ) → Additive m → Additive o → Additive (λ x. plus (times c (m x)) (times d (o x)))
additive_two c d m o a b =
    additive_plus (λ x. times c (m x)) (λ x. times d (o x))
    (additive_then m (times c) a (additive_times c))
    (additive_then o (times d) b (additive_times d))

additive_part : (l : ℕ) → Additive (solved_part l)
additive_part l =
    let power_by : List ℕ → List ℕ = λ x. times x (to_the g l) in
    let by_power = additive_by (to_the g l) in
    additive_plus (λ x. plus (times C1 x) (times C2 (scaled l x))) (λ x. plus (times C3 (power_by x)) (times C4 (scaled l (power_by x))))
    (additive_two C1 C2 (λ x. x) (scaled l) additive_same (additive_number l))
    (additive_two C3 C4 power_by (λ x. scaled l (power_by x)) by_power (additive_then power_by (scaled l) by_power (additive_number l)))

-- what holds of 0, 1, .. 5 holds below 6
below_six : (P : ℕ → Type 0) → P 0 → P 1 → P 2 → P 3 → P 4 → P 5 → (s : ℕ) → s < 6 → P s
below_six P p0 p1 p2 p3 p4 p5 s h = grind arith

-- The products 0, 1, 3, 4 at the six powers of g: the checker reckons them out.
kept_power : (s : ℕ) → s < 6 → solved_part 0 (power 1 s) ≡ times D (power 1 s)
unfolding total times_digit to_the
kept_power = below_six (λ s. solved_part 0 (power 1 s) ≡ times D (power 1 s)) refl refl refl refl refl refl

lost_power : (j : ℕ) → j < 4 → (j ≡ 0 → ⊥) → (s : ℕ) → s < 6 → solved_part (allowed_product j) (power 1 s) ≡ zero_element
unfolding total times_digit to_the
lost_power zero few some = absurd (some refl)
lost_power (suc zero) few some = below_six (λ s. solved_part 1 (power 1 s) ≡ zero_element) refl refl refl refl refl refl
lost_power (suc (suc zero)) few some = below_six (λ s. solved_part 3 (power 1 s) ≡ zero_element) refl refl refl refl refl refl
lost_power (suc (suc (suc zero))) few some = below_six (λ s. solved_part 4 (power 1 s) ≡ zero_element) refl refl refl refl refl refl
lost_power (suc (suc (suc (suc j)))) few some = absurd (omega arith)

-- W of four sums, term by term
two_sums : (n : ℕ) (c d : List ℕ) (e f : ℕ → List ℕ) →
    plus (times c (sum_of n e)) (times d (sum_of n f)) ≡ sum_of n (λ i. plus (times c (e i)) (times d (f i)))
two_sums n c d e f =
    ap₂ plus (additive_sum (times c) (additive_times c) n e) (additive_sum (times d) (additive_times d) n f)
    ∙ sym (sum_plus n (λ i. times c (e i)) (λ i. times d (f i)))

weighed_sums : (n : ℕ) (e1 e2 e3 e4 : ℕ → List ℕ) →
    weighed (sum_of n e1) (sum_of n e2) (sum_of n e3) (sum_of n e4) ≡ sum_of n (λ i. weighed (e1 i) (e2 i) (e3 i) (e4 i))
weighed_sums n e1 e2 e3 e4 =
    ap₂ plus (two_sums n C1 C2 e1 e2) (two_sums n C3 C4 e3 e4)
    ∙ sym (sum_plus n (λ i. plus (times C1 (e1 i)) (times C2 (e2 i))) (λ i. plus (times C3 (e3 i)) (times C4 (e4 i))))

-- W of the right sides of the four equations, whatever the shares
pub shares_weighed : (c : ℕ → List ℕ) → ((l : ℕ) → plus zero_element (c l) ≡ c l) →
    weighed (over_products c) (over_products (λ l. scaled l (c l)))
    (over_products (λ l. times (c l) (to_the g l))) (over_products (λ l. scaled l (times (c l) (to_the g l)))) ≡ times D (c 0)
shares_weighed c is =
    let share : ℕ → List ℕ = λ j. c (allowed_product j) in
    let turned : ℕ → List ℕ = λ j. times (share j) (to_the g (allowed_product j)) in
    weighed_sums 4 share (λ j. scaled (allowed_product j) (share j)) turned (λ j. scaled (allowed_product j) (turned j))
    ∙ sum_only 4 0 (λ j. solved_part (allowed_product j) (share j)) (omega arith)
    (λ j few some.
    agree_at_powers (solved_part (allowed_product j)) (λ x. zero_element) (additive_part (allowed_product j)) additive_none
    (lost_power j few some) (share j) (is (allowed_product j)))
    ∙ ap (plus zero_element) (agree_at_powers (solved_part 0) (times D) (additive_part 0) (additive_times D) kept_power (c 0) (is 0))
    ∙ additive_element (times D) (additive_times D) (c 0) (is 0)
  where
    additive_none : Additive (λ x. zero_element)
    additive_none = record { nothing = refl; sums = λ x y. refl }
