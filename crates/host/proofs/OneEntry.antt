-- One entry's answer: it stands at one place of the value, and at one place of each element where u is not 0.
use Rattle.std.proofs.Common.{◌≡◌, ℕ, ◌+◌, ◌-◌, ◌*◌, ◌/◌, ◌%◌, ◌<◌, ◌≤◌, List, ◌++◌, length, take, drop, set, ap, ◌∙◌, inl, inr, zero-mul, get_or-drop, length-drop, length-append, arith}
use Rattle.std.proofs.lemmas.Bool.{cases_lt}
use Rattle.std.proofs.lemmas.Bool.Decides.{nat_tests}
use Rattle.std.proofs.lemmas.Grind.{common_steps}
use Rattle.std.proofs.lemmas.List.{get_or-set_other, get_or-append_right, length-set, length-take}
use Rattle.std.proofs.lemmas.List.FromFn.{fill_by_all}
use Rattle.digits.specs.Rows.{at}
use Rattle.digits.specs.Sums.{same}
use Rattle.digits.proofs.RowLaws.{length-row, at_row}
use Rattle.digits.proofs.Sums.{total_only}
use Rattle.family.specs.Spread.{spread_at, spread}
use Rattle.family.specs.Spreads.{spread_here, spread_other, spread_zero}
use Rattle.family.specs.Vectors.{Vectors}
use Rattle.scheme.specs.Answers.{exponent, power_sum, answer, answered, sheet_size, Sheet}
use Rattle.host.specs.Entries.{single}

-- nothing of a row stands behind its last part
nothing_behind : (n : ℕ) (ys part : List ℕ) → part ++ drop (length ys - n) (drop n ys) ≡ part
nothing_behind n ys part = grind (arith, common_steps)

module _ (f : Vectors) (i d : ℕ) (p : List ℕ) (below : i < f.count) where
  -- weights that are 0 but at position i
  only : (w : ℕ → ℕ) → ((j : ℕ) → (j ≡ i → ⊥) → w j ≡ 0) → (r : ℕ) → power_sum f w p r ≡ w i * same (exponent f p i) r % 6
  only w zeros r =
      ap (λ n. n % 6)
      (total_only f.count i (λ j. w j * same (exponent f p j) r) below
      (λ j b ne. ap (λ n. n * same (exponent f p j) r) (zeros j ne) ∙ zero-mul (same (exponent f p j) r)))

  others : (j : ℕ) → (j ≡ i → ⊥) → single i d j ≡ 0
  others j ne = grind (arith, nat_tests)

  in_value : (x : ℕ) → x < 6 → answer f (single i d) p x ≡ d * same (exponent f p i) x % 6
  in_value x h = let all = only (single i d) others x in grind (arith, nat_tests)

  in_element : (x : ℕ) → 6 ≤ x → answer f (single i d) p x ≡ d * f.u i (x / 6 - 1) * same (exponent f p i) (x % 6) % 6
  in_element x h =
      let u : ℕ → ℕ = λ j. f.u j (x / 6 - 1) in
      let all = only (λ j. single i d j * u j) (λ j ne. ap (λ n. n * u j) (others j ne) ∙ zero-mul (u j)) (x % 6) in
      grind (arith, nat_tests)

  -- An amount spread over the elements with the exponent e, and then added at place e of the value, is what this table answers.
  module _ (xs els : List ℕ) (e : ℕ) (fit : Sheet f xs) (power : e ≡ exponent f p i) (spread_is : els ≡ spread (f.u i) d e (drop 6 xs)) where
    abbrev spread_over : List ℕ
    spread_over = take 6 xs ++ els

    els_long : length els ≡ length xs - 6
    unfolding spread
    els_long = ap length spread_is ∙ length-row (length (drop 6 xs)) (spread_at (f.u i) d e (drop 6 xs)) ∙ length-drop 6 xs

    long : length spread_over ≡ sheet_size f.dim
    long = omega (arith, length-append (take 6 xs) els, length-take 6 xs, els_long, fit.0)

    -- the value before the amount was added
    before : (x : ℕ) → x < 6 → at spread_over x ≡ at xs x
    before x h = grind (arith, common_steps, fit.0)

    value_place : (x : ℕ) → x < 6 → at (set spread_over e ((at spread_over e + d) % 6)) x ≡ (at xs x + answer f (single i d) p x) % 6
    value_place x h =
        let held = before x h in
        let digit = fit.1 x in
        let all = in_value x h in
        grind (arith, common_steps, nat_tests, long, power)

    -- the elements before they were spread over
    elements_before : (x : ℕ) → 6 ≤ x → at (drop 6 xs) (x - 6) ≡ at xs x
    elements_before x h = get_or-drop 6 xs (x - 6) 0 ∙ ap (at xs) (omega arith)

    element_place : (x : ℕ) → 6 ≤ x → x < sheet_size f.dim → at els (x - 6) ≡ (at xs x + answer f (single i d) p x) % 6
    unfolding spread
    element_place x h l =
        let u : ℕ → ℕ = f.u i in
        let same_coordinate : (x - 6) / 6 ≡ x / 6 - 1 = omega arith in
        let now = ap (λ zs. at zs (x - 6)) spread_is in
        let rule = at_row (length (drop 6 xs)) (spread_at u d e (drop 6 xs)) (x - 6) (omega (arith, length-drop 6 xs, fit.0)) in
        let zero = spread_zero u d e (x - 6) (drop 6 xs) in
        let here = spread_here u d e (x - 6) (drop 6 xs) in
        let other = spread_other u d e (x - 6) (drop 6 xs) in
        let held = elements_before x h in
        let digit = fit.1 x in
        let all = in_element x h in
        let coordinate = ap u same_coordinate in
        grind (arith, nat_tests, power)

    pub entry_added : (ys : List ℕ) → ys ≡ take 6 xs ++ (els ++ drop (length xs - 6) (drop 6 xs)) →
        set ys e ((at ys e + d) % 6) ≡ answered f (single i d) p xs
    unfolding answered
    entry_added ys is =
        ap (λ zs. set zs e ((at zs e + d) % 6)) (is ∙ ap (λ zs. take 6 xs ++ zs) (nothing_behind 6 xs els))
        ∙ fill_by_all (λ x. (at xs x + answer f (single i d) p x) % 6) (set spread_over e ((at spread_over e + d) % 6)) (sheet_size f.dim) 0
        (length-set spread_over e ((at spread_over e + d) % 6) ∙ long)
        (λ x l. elim (cases_lt x 6) [
          | inl b ↦ value_place x b
          | inr b ↦
              get_or-set_other spread_over e x ((at spread_over e + d) % 6) 0 (omega arith)
              ∙ get_or-append_right (take 6 xs) els 6 x 0 (omega (arith, length-take 6 xs, fit.0)) b ∙ element_place x b l
        ])
