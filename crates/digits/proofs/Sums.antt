-- Laws of `total`, of products of vectors and of `same`.
use Rattle.std.proofs.Common.{◌≡◌, ℕ, zero, suc, ◌+◌, ◌*◌, ◌%◌, ◌<◌, eqb, sym, refl, ap, ◌∙◌, ap₂, inl, inr, not-suc-le-zero, add-zero, add_assoc, add-suc, zero-add, zero-mul, mul-zero, mul-one, add-one, arith}
use Rattle.std.proofs.lemmas.Bool.{cases_eq, eq-eqb, ne_eqb, cond-true, cond-false}
use Rattle.digits.specs.Sums.{total, product, same}

pub total_cong : (n : ℕ) (f g : ℕ → ℕ) → ((i : ℕ) → i < n → f i ≡ g i) → total n f ≡ total n g
unfolding total
total_cong zero f g h = refl
total_cong (suc n) f g h = ap₂ (λ a b. a + b) (total_cong n f g (λ i l. h i (omega arith))) (h n (omega arith))

pub total_zero : (n : ℕ) → total n (λ i. 0) ≡ 0
unfolding total
total_zero zero = refl
total_zero (suc n) = ap (λ a. a + 0) (total_zero n)

-- no term: the start of a loop that sums
pub total_start : (f : ℕ → ℕ) → total 0 f ≡ 0
unfolding total
total_start f = refl

-- one term more: the step of a loop that sums
pub total_more : (n : ℕ) (f : ℕ → ℕ) → total (n + 1) f ≡ total n f + f n
unfolding total
total_more n f = rw add-one

-- a sum over two stretches, one behind the other
pub total-append : (m n : ℕ) (f : ℕ → ℕ) → total (m + n) f ≡ total m f + total n (λ i. f (m + i))
unfolding total
total-append m zero f = ap (λ k. total k f) (add-zero m) ∙ sym (add-zero (total m f))
total-append m (suc n) f =
    ap (λ k. total k f) (add-suc m n)
    ∙ ap (λ a. a + f (m + n)) (total-append m n f)
    ∙ add_assoc (total m f) (total n (λ i. f (m + i))) (f (m + n))

pub total_none : (n : ℕ) (f : ℕ → ℕ) → ((i : ℕ) → i < n → f i ≡ 0) → total n f ≡ 0
total_none n f h = total_cong n f (λ i. 0) h ∙ total_zero n

-- a sum of which one term is left, exactly
pub total_only : (n t : ℕ) (f : ℕ → ℕ) → t < n → ((i : ℕ) → i < n → (i ≡ t → ⊥) → f i ≡ 0) → total n f ≡ f t
unfolding total
total_only zero t f l h = absurd (not-suc-le-zero l)
total_only (suc n) t f l h =
    elim (cases_eq t n) [
      | inl e ↦ ap (λ a. a + f n) (total_none n f (λ i b. h i (omega arith) (omega arith))) ∙ zero-add (f n) ∙ ap f (sym e)
      | inr e ↦ ap (λ a. total n f + a) (h n (omega arith) (omega arith)) ∙ add-zero (total n f) ∙ total_only n t f (omega arith) (λ i b k. h i (omega arith) k)
    ]

-- one coordinate more: the step of a loop that multiplies two vectors
pub product_more : (k : ℕ) (x y : ℕ → ℕ) (s a b : ℕ) → s ≡ product k x y → a ≡ x k → b ≡ y k → (s + a * b) % 6 ≡ product (k + 1) x y
product_more k x y s a b hs ha hb =
    ap₂ (λ p q. (s + p * q) % 6) ha hb ∙ ap (λ p. (p + x k * y k) % 6) hs
    ∙ (let more = total_more k (λ c. x c * y c) in omega arith)

pub product_none : (x y : ℕ → ℕ) → product 0 x y ≡ 0
product_none x y = ap (λ s. s % 6) (total_start (λ c. x c * y c))

pub product_cong : (k : ℕ) (x y v w : ℕ → ℕ) → ((c : ℕ) → c < k → x c ≡ v c) → ((c : ℕ) → c < k → y c ≡ w c) → product k x y ≡ product k v w
product_cong k x y v w hx hy =
    ap (λ s. s % 6) (total_cong k (λ c. x c * y c) (λ c. v c * w c) (λ c b. ap₂ (λ p q. p * q) (hx c b) (hy c b)))

-- a vector of zeros
pub product_zero : (k : ℕ) (x y : ℕ → ℕ) → ((c : ℕ) → c < k → x c ≡ 0) → product k x y ≡ 0
product_zero k x y h =
    ap (λ s. s % 6) (total_none k (λ c. x c * y c) (λ c b. ap (λ p. p * y c) (h c b) ∙ zero-mul (y c)))

-- a vector that is 0 but at one coordinate
pub product_only : (k t : ℕ) (x y : ℕ → ℕ) → t < k → ((c : ℕ) → c < k → (c ≡ t → ⊥) → x c ≡ 0) → product k x y ≡ x t * y t % 6
product_only k t x y l h =
    ap (λ s. s % 6) (total_only k t (λ c. x c * y c) l (λ c b n. ap (λ p. p * y c) (h c b n) ∙ zero-mul (y c)))

-- coordinates at which one vector is 0 count for nothing
pub product_past : (m n : ℕ) (x y : ℕ → ℕ) → ((c : ℕ) → x (m + c) * y (m + c) ≡ 0) → product (m + n) x y ≡ product m x y
product_past m n x y h =
    let more = total-append m n (λ c. x c * y c) in
    let rest = total_none n (λ c. x (m + c) * y (m + c)) (λ c b. h c) in
    omega arith

-- the test of two numbers as a digit
pub same_yes : (a b : ℕ) → a ≡ b → same a b ≡ 1
same_yes a b e = cond-true (eqb a b) 1 0 (eq-eqb a b e)

pub same_no : (a b : ℕ) → (a ≡ b → ⊥) → same a b ≡ 0
same_no a b e = cond-false (eqb a b) 1 0 (ne_eqb a b e)

-- a number that counts where two others are equal
pub kept : (n a b : ℕ) → a ≡ b → n * same a b ≡ n
kept n a b e = ap (λ s. n * s) (same_yes a b e) ∙ mul-one n

pub dropped : (n a b : ℕ) → (a ≡ b → ⊥) → n * same a b ≡ 0
dropped n a b ne = ap (λ s. n * s) (same_no a b ne) ∙ mul-zero n
