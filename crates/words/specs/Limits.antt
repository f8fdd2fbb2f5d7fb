-- The word family's count and dimension within a family's limits, and its weights among the digits.
use Rattle.std.specs.Prelude.{◌≡◌, ℕ, zero, suc, ◌+◌, ◌-◌, ◌*◌, ◌/◌, ◌^◌, ◌<◌, ◌≤◌, true, [], ◌∷◌, length, sum_by, nat_le, slice_index, refl}
use Rattle.std.proofs.Common.{sym, ap, ap₂, ◌∙◌, mul-le-mul, le_trans, mul-one, pow-suc, one-mul, mul_comm, arith}
use Rattle.std.proofs.Math.Nat.{one-le-pow, pow-le-pow_left, pow-le-pow_right, pow-zero}
use Rattle.std.specs.List.{range_with_len}
use Rattle.std.proofs.lemmas.List.FromFn.{length-range_with_len}
use Rattle.std.proofs.ByRecursion.{All-weaker}
use Rattle.std.proofs.lemmas.Bool.{leb-true}
use Rattle.digits.specs.Sums.{same}
use Rattle.words.specs.Agreement.{binomial}
use Rattle.words.specs.Marks.{width, block, reading}
use Rattle.words.specs.Places.{choose, sizes, place_sets}
use Rattle.words.specs.Words.{weight, word_dim}
use Rattle.words.specs.Binomials.{binomial_none, binomial_one, binomial_two}
use Rattle.words.specs.Choosing.{choose-sizes, sum_by_size, agreeing_sets}
use Rattle.words.specs.EachBelow.{each_below, from_each}
use Rattle.words.specs.ListSums.{sum_by_cong, sum_by-same, sum_by_scale}
use Rattle.digits.proofs.Sums.{same_yes}
use Rattle.words.specs.Readings.{agree_self}

pub count_few : (h q : ℕ) → 2 ≤ q → h ≤ 5 → q ≤ 16 → q ^ h ≤ 1048576
count_few h q some short few = le_trans (pow-le-pow_left few h) (pow-le-pow_right {n = 16} (omega arith) short)

pub count_some : (h q : ℕ) → 2 ≤ q → 1 ≤ q ^ h
count_some h q some = one-le-pow h q (omega arith)

pub dim_narrow : (h q : ℕ) → h ≤ 5 → q ≤ 16 → word_dim h q ≤ 2641
dim_narrow h q short few =
    let ones : h * q ≤ 5 * 16 = mul-le-mul short few in
    let less : h - 1 ≤ 4 = omega arith in
    let pairs : h * (h - 1) ≤ 5 * 4 = mul-le-mul short less in
    let half : h * (h - 1) / 2 ≤ 10 = omega arith in
    let square : q * q ≤ 16 * 16 = mul-le-mul few few in
    let twos : h * (h - 1) / 2 * (q * q) ≤ 10 * (16 * 16) = mul-le-mul half square in
    omega arith

pub power_one : (q : ℕ) → q ^ 1 ≡ q
power_one q = pow-suc q 0 ∙ ap (λ a. a * q) (pow-zero q) ∙ one-mul q

pub power_two : (q : ℕ) → q ^ 2 ≡ q * q
power_two q = pow-suc q 1 ∙ ap (λ a. a * q) (power_one q)

-- there are binomial h s sets of s places: two equal words agree at each
sets_of : (h s : ℕ) → sum_by (λ places. 1) (choose s (range_with_len 0 h)) ≡ binomial h s
sets_of h s =
    sum_by-same (λ places. 1) (λ places. same (reading 1 (λ p. 0) places) (reading 1 (λ p. 0) places))
    (λ places. sym (same_yes (reading 1 (λ p. 0) places) _ refl)) (choose s (range_with_len 0 h))
    ∙ agreeing_sets 1 (λ p. 0) (λ p. 0) (λ p. omega arith) (λ p. omega arith) s (range_with_len 0 h)
    ∙ ap (λ m. binomial m s) (agree_self (λ p. 0) (range_with_len 0 h) ∙ length-range_with_len 0 h)

-- the blocks of the sets of one place
pub width_ones : (h q : ℕ) → width q (choose 1 (range_with_len 0 h)) ≡ h * q
width_ones h q =
    sum_by_cong (block q) (λ places. q * 1) (choose 1 (range_with_len 0 h))
    (All-weaker (λ places. length places ≡ 1) _ (λ places e. ap (λ n. q ^ n) e ∙ power_one q ∙ sym (mul-one q)) (choose 1 (range_with_len 0 h)) (choose-sizes 1 (range_with_len 0 h)))
    ∙ sum_by_scale q (λ places. 1) (choose 1 (range_with_len 0 h))
    ∙ ap (λ a. q * a) (sets_of h 1 ∙ binomial_one h) ∙ mul_comm q h

-- the dimension is the sum of the blocks
pub width_sets : (h q : ℕ) → width q (place_sets h) ≡ word_dim h q
width_sets h q =
    sum_by-same (block q) (λ places. q ^ length places * 1) (λ places. sym (mul-one (q ^ length places))) (place_sets h)
    ∙ sum_by_size (λ s. q ^ s) (λ places. 1) (range_with_len 0 h) sizes
    ∙ ap (λ a. a + q ^ 2 * sum_by (λ places. 1) (choose 2 (range_with_len 0 h)))
    (ap₂ (λ a b. 0 + a + b) none one)
    ∙ ap (λ a. 0 + 1 + h * q + a) two
  where
    none : q ^ 0 * sum_by (λ places. 1) (choose 0 (range_with_len 0 h)) ≡ 1
    none = ap₂ (λ a b. a * b) (pow-zero q) (sets_of h 0 ∙ binomial_none h)

    one : q ^ 1 * sum_by (λ places. 1) (choose 1 (range_with_len 0 h)) ≡ h * q
    one = ap₂ (λ a b. a * b) (power_one q) (sets_of h 1 ∙ binomial_one h) ∙ mul_comm q h

    two : q ^ 2 * sum_by (λ places. 1) (choose 2 (range_with_len 0 h)) ≡ h * (h - 1) / 2 * (q * q)
    two =
        ap₂ (λ a b. a * b) (power_two q) (sets_of h 2 ∙ binomial_two h)
        ∙ mul_comm (q * q) (h * (h - 1) / 2)

sets_tested : each_below (λ h. nat_le (length (place_sets h)) 16) 6 ≡ true
unfolding choose
sets_tested = refl

pub sets_few : (h : ℕ) → h ≤ 5 → length (place_sets h) ≤ 16
sets_few h short = leb-true (length (place_sets h)) 16 (from_each (λ h. nat_le (length (place_sets h)) 16) 6 sets_tested h (omega arith))

-- each weight is a digit
three_lt : (a b c s : ℕ) → a < 6 → b < 6 → c < 6 → slice_index (a ∷ b ∷ c ∷ []) s < 6
three_lt a b c zero ha hb hc = ha
three_lt a b c (suc zero) ha hb hc = hb
three_lt a b c (suc (suc zero)) ha hb hc = hc
three_lt a b c (suc (suc (suc s))) ha hb hc = omega arith

pub weight_lt : (h s : ℕ) → weight h s < 6
weight_lt zero s = three_lt 0 0 0 s (omega arith) (omega arith) (omega arith)
weight_lt (suc zero) s = three_lt 1 5 0 s (omega arith) (omega arith) (omega arith)
weight_lt (suc (suc zero)) s = three_lt 4 3 2 s (omega arith) (omega arith) (omega arith)
weight_lt (suc (suc (suc zero))) s = three_lt 3 1 2 s (omega arith) (omega arith) (omega arith)
weight_lt (suc (suc (suc (suc zero)))) s = three_lt 4 5 2 s (omega arith) (omega arith) (omega arith)
weight_lt (suc (suc (suc (suc (suc zero))))) s = three_lt 1 3 2 s (omega arith) (omega arith) (omega arith)
weight_lt (suc (suc (suc (suc (suc (suc h)))))) s = omega arith
