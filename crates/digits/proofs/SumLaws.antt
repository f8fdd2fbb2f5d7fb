-- Sums added, scaled and exchanged, and sums modulo 6.
use Rattle.std.proofs.Common.{◌≡◌, ℕ, zero, suc, ◌+◌, ◌*◌, ◌%◌, ◌<◌, sym, refl, ap, ap₂, ◌∙◌, inl, inr, mul-zero, zero-add, add-zero, not-suc-le-zero, arith}
use Rattle.std.proofs.Math.Nat.{add-mod, mul-add}
use Rattle.std.proofs.lemmas.Bool.{cases_eq}
use Rattle.std.proofs.lemmas.Nat.{mul-mod_second}
use Rattle.digits.specs.Sums.{total}
use Rattle.digits.proofs.Sums.{total_zero}

pub total_add : (n : ℕ) (f g : ℕ → ℕ) → total n (λ i. f i + g i) ≡ total n f + total n g
unfolding total
total_add zero f g = refl
total_add (suc n) f g = let h = total_add n f g in omega arith

pub total_scale : (n c : ℕ) (f : ℕ → ℕ) → total n (λ i. c * f i) ≡ c * total n f
unfolding total
total_scale zero c f = sym (mul-zero c)
total_scale (suc n) c f = ap (λ a. a + c * f n) (total_scale n c f) ∙ sym (mul-add c (total n f) (f n))

pub total_swap : (n m : ℕ) (f : ℕ → ℕ → ℕ) → total n (λ i. total m (λ j. f i j)) ≡ total m (λ j. total n (λ i. f i j))
unfolding total
total_swap zero m f = sym (total_zero m)
total_swap (suc n) m f =
    ap (λ a. a + total m (λ j. f n j)) (total_swap n m f)
    ∙ sym (total_add m (λ j. total n (λ i. f i j)) (λ j. f n j))

-- sums of numbers that leave the same modulo 6
pub add_same : (a b c d : ℕ) → a % 6 ≡ c % 6 → b % 6 ≡ d % 6 → (a + b) % 6 ≡ (c + d) % 6
add_same a b c d h k = add-mod a b 6 ∙ ap₂ (λ x y. (x + y) % 6) h k ∙ sym (add-mod c d 6)

pub total_mod : (n : ℕ) (f g : ℕ → ℕ) → ((i : ℕ) → i < n → f i % 6 ≡ g i % 6) → total n f % 6 ≡ total n g % 6
unfolding total
total_mod zero f g h = refl
total_mod (suc n) f g h = add_same (total n f) (f n) (total n g) (g n) (total_mod n f g (λ i l. h i (omega arith))) (h n (omega arith))

-- a sum of nothing but multiples of 6
pub total_nil : (n : ℕ) (f : ℕ → ℕ) → ((i : ℕ) → i < n → f i % 6 ≡ 0) → total n f % 6 ≡ 0
total_nil n f h = total_mod n f (λ i. 0) h ∙ ap (λ x. x % 6) (total_zero n)

-- a sum of which one term is left, the others being multiples of 6
pub total_one : (n t : ℕ) (f : ℕ → ℕ) → t < n → ((i : ℕ) → i < n → (i ≡ t → ⊥) → f i % 6 ≡ 0) → total n f % 6 ≡ f t % 6
unfolding total
total_one zero t f l h = absurd (not-suc-le-zero l)
total_one (suc n) t f l h =
    elim (cases_eq t n) [
      | inl e ↦
          add_same (total n f) (f n) 0 (f t) (total_nil n f (λ i b. h i (omega arith) (omega arith))) (ap (λ x. f x % 6) (sym e))
          ∙ ap (λ x. x % 6) (zero-add (f t))
      | inr e ↦
          add_same (total n f) (f n) (f t) 0 (total_one n t f (omega arith) (λ i b k. h i (omega arith) k)) (h n (omega arith) (omega arith))
          ∙ ap (λ x. x % 6) (add-zero (f t))
    ]

-- products with a number that leaves the same modulo 6
pub mul_same : (a b c : ℕ) → b % 6 ≡ c % 6 → a * b % 6 ≡ a * c % 6
mul_same a b c h = sym (mul-mod_second a b 6) ∙ ap (λ x. a * x % 6) h ∙ mul-mod_second a c 6
