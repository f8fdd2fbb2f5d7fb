-- The unit family is a matching family, and only one coordinate of its u is not 0.
use Rattle.std.specs.Prelude.{◌≡◌, ℕ, ◌+◌, ◌*◌, ◌%◌, ◌<◌, ◌≤◌, cond, List, ◌==◌, ◌≢◌, slice_set, refl}
use Rattle.std.proofs.Common.{sym, ap, ◌∙◌, inl, one-mul, mul-one, arith}
use Rattle.std.proofs.lemmas.List.{length-set}
use Rattle.std.proofs.lemmas.Bool.{eq-eqb, ne_eqb, cond-true, cond-false, cond_both}
use Rattle.digits.specs.Rows.{at}
use Rattle.digits.specs.Sums.{product, same}
use Rattle.digits.proofs.Sums.{product_only, same_yes, same_no}
use Rattle.family.specs.Spread.{spread}
use Rattle.family.specs.Units.{unit_vectors}
use Rattle.family.specs.Vectors.{MatchingFamily, Matches}
use Rattle.family.specs.Spreads.{Passed, none_passed, skips_to, adds, all_passed}
use Rattle.family.specs.Within.{within_in, within_past_dim, told-within}

module _ (n i : ℕ) (inside : i < n) where
  pub u_own : (unit_vectors n).u i i ≡ 1
  u_own = within_in n n same i i inside inside ∙ same_yes i i refl

  pub u_other : (c : ℕ) → c < n → (c ≢ i) → (unit_vectors n).u i c ≡ 0
  u_other c b ne = within_in n n same i c inside b ∙ same_no i c (λ e. ne (sym e))

  -- the product of u(i) with any vector is that vector's digit at coordinate i
  pub unit_product : (y : ℕ → ℕ) → product n ((unit_vectors n).u i) y ≡ y i % 6
  unit_product y =
      product_only n i ((unit_vectors n).u i) y inside u_other
      ∙ ap (λ a. a * y i % 6) u_own ∙ ap (λ a. a % 6) (one-mul (y i))

  -- spreading adds at coordinate i alone
  pub unit_spread : (amount e p d : ℕ) (xs : List ℕ) → p ≡ 6 * i + e % 6 → d ≡ amount →
      slice_set xs p ((at xs p + d) % 6) ≡ spread ((unit_vectors n).u i) amount e xs
  unit_spread amount e p d xs hp hd =
      let u : ℕ → ℕ = (unit_vectors n).u i in
      let start : Passed u amount e i xs xs =
      skips_to u amount e 0 i xs xs (omega arith) (λ b l k. u_other b (omega arith) (omega arith)) (none_passed u amount e xs) in
      let once : Passed u amount e (i + 1) xs (slice_set xs p ((at xs p + amount * 1) % 6)) =
      adds u amount e i xs xs start p 1 refl hp (sym u_own) (omega arith) in
      let whole : Passed u amount e n xs (slice_set xs p ((at xs p + amount * 1) % 6)) =
      skips_to u amount e (i + 1) n xs _ (omega arith) (λ b l k. u_other b k (omega arith)) once in
      ap (λ a. slice_set xs p ((at xs p + a) % 6)) (hd ∙ sym (mul-one amount))
      ∙ all_passed u amount e n xs _ (λ c l. within_past_dim n n same i c l) (length-set xs p ((at xs p + amount * 1) % 6)) whole

pub unit_matches : (n : ℕ) → Matches (unit_vectors n)
unit_matches n = record {
  alike = λ i h.
      unit_product n i h ((unit_vectors n).v i)
      ∙ ap (λ d. d % 6) (within_in n n (λ a c. cond (a == c) 0 1) i i h h ∙ cond-true (i == i) 0 1 (eq-eqb i i (omega arith)));
  apart = λ i j hi hj ne.
      inl (unit_product n i hi ((unit_vectors n).v j)
      ∙ ap (λ d. d % 6) (within_in n n (λ a c. cond (a == c) 0 1) j i hj hi ∙ cond-false (j == i) 0 1 (ne_eqb j i (λ e. ne (sym e)))));
}

pub unit_family : (n : ℕ) → 1 ≤ n → n ≤ 4096 → MatchingFamily (unit_vectors n)
unit_family n some few = record {
  limits = record { some = some; few = omega arith; wide = some; narrow = few };
  told = told-within n n same (λ i c. cond (i == c) 0 1)
      (λ i c hi hc. cond_both (i == c) 1 0 (λ d. d < 6) (λ e. omega arith) (λ e. omega arith))
      (λ i c hi hc. cond_both (i == c) 0 1 (λ d. d < 6) (λ e. omega arith) (λ e. omega arith));
  matches = unit_matches n;
}
