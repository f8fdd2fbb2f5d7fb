-- The plain sum of the products of two rows, taken along both at once, and stretch by stretch.
use Rattle.std.proofs.Common.{◌≡◌, ℕ, zero, suc, ◌+◌, ◌*◌, ◌%◌, ◌<◌, ◌⊎◌, inl, inr, min, List, [], ◌∷◌, ◌++◌, length, sum_by, refl, ap, ◌∙◌, sym, mul-zero, length-append, arith}
use Rattle.std.specs.List.{zip}
use Rattle.std.proofs.lemmas.List.{nil_from_length}
use Rattle.std.proofs.lemmas.List.Sums.{sum_by-cons}
use Rattle.digits.specs.Rows.{at}
use Rattle.digits.specs.Sums.{total}
use Rattle.digits.proofs.Sums.{total_none, total_start}

-- the sum as a chain of iterators takes it
abbrev pub zipped : List ℕ → List ℕ → ℕ
zipped xs ys = sum_by (λ p. p.0 * p.1) (zip xs ys)

-- where either row has ended, nothing is left
pub zipped_done : (xs ys : List ℕ) → (length xs ≡ 0) ⊎ (length ys ≡ 0) → zipped xs ys ≡ 0
zipped_done [] ys h = refl
zipped_done (x ∷ xs) [] h = refl
zipped_done (x ∷ xs) (y ∷ ys) (inl h) = absurd (omega arith)
zipped_done (x ∷ xs) (y ∷ ys) (inr h) = absurd (omega arith)

zipped-cons : (x y : ℕ) (xs ys : List ℕ) → zipped (x ∷ xs) (y ∷ ys) ≡ x * y + zipped xs ys
zipped-cons x y xs ys = sum_by-cons (λ p. p.0 * p.1) (x, y) (zip xs ys)

-- a sum from its first term on
total_first : (n : ℕ) (f : ℕ → ℕ) → total (suc n) f ≡ f 0 + total n (λ i. f (suc i))
unfolding total
total_first zero f = omega arith
total_first (suc n) f = omega (arith, total_first n f)

-- it is the sum over the first row's places
pub zipped_total : (xs ys : List ℕ) → zipped xs ys ≡ total (length xs) (λ c. at xs c * at ys c)
zipped_total [] ys = sym (total_start (λ c. at [] c * at ys c))
zipped_total (x ∷ xs) [] = sym (total_none (suc (length xs)) (λ c. at (x ∷ xs) c * at [] c) (λ c h. mul-zero (at (x ∷ xs) c)))
zipped_total (x ∷ xs) (y ∷ ys) =
    zipped-cons x y xs ys ∙ ap (λ n. x * y + n) (zipped_total xs ys)
    ∙ sym (total_first (length xs) (λ c. at (x ∷ xs) c * at (y ∷ ys) c))

-- two parts of each row, where the front parts are of one length, or the row with the shorter one ends with it
pub zipped-append : (xs us ys vs : List ℕ) →
    (length xs < length ys → us ≡ []) → (length ys < length xs → vs ≡ []) →
    zipped (xs ++ us) (ys ++ vs) ≡ zipped xs ys + zipped us vs
zipped-append [] us [] vs hu hv = omega arith
zipped-append [] us (y ∷ ys) vs hu hv = rw (hu (omega arith)) refl
zipped-append (x ∷ xs) us [] vs hu hv = rw (hv (omega arith)) (omega (arith, zipped_done us [] (inr refl)))
zipped-append (x ∷ xs) us (y ∷ ys) vs hu hv =
    omega (arith, zipped-cons x y (xs ++ us) (ys ++ vs), zipped-cons x y xs ys, zipped-append xs us ys vs (λ h. hu (omega arith)) (λ h. hv (omega arith)))

-- a part that is as long as the row leaves nothing behind it
nothing_left : (xs us : List ℕ) → length xs ≡ length (xs ++ us) → us ≡ []
nothing_left xs us h = nil_from_length us (omega (arith, length-append xs us))

-- the step of a loop that sums the products along both rows, a stretch of so many digits at a time
pub stretch_more : (size m n sum plain : ℕ) (a b x y us vs : List ℕ) → m ≡ size → n ≡ size → a ≡ x ++ us → b ≡ y ++ vs →
    length x ≡ min m (length a) → length y ≡ min n (length b) → plain ≡ zipped x y →
    ((sum + plain % 6) % 6 + zipped us vs) % 6 ≡ (sum + zipped a b) % 6
stretch_more size m n sum plain a b x y us vs hm hn ha hb hx hy hp =
    let both : zipped a b ≡ zipped x y + zipped us vs =
    ap (λ r. zipped r b) ha ∙ ap (zipped (x ++ us)) hb
    ∙ zipped-append x us y vs
    (λ h. nothing_left x us (omega (arith, ap length ha)))
    (λ h. nothing_left y vs (omega (arith, ap length hb)))
    in omega (arith, both, hp)
