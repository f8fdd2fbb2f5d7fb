-- A part of a row, as a part of a slice holds it.
use Rattle.std.proofs.Common.{◌≡◌, ℕ, ◌+◌, ◌-◌, ◌*◌, ◌<◌, min, List, length, take, drop, sym, refl, ap, ◌∙◌, inl, inr, mul-zero, arith}
use Rattle.std.proofs.lemmas.List.{get_or-take, get_or-drop, get_or_past}
use Rattle.std.proofs.lemmas.Bool.{cases_lt}
use Rattle.digits.specs.Rows.{at}
use Rattle.digits.specs.Sums.{product}
use Rattle.digits.proofs.Sums.{product_cong, product_past}

pub at_stretch : (m n i : ℕ) (xs : List ℕ) → i < n → at (take n (drop m xs)) i ≡ at xs (m + i)
at_stretch m n i xs h = get_or-take n (drop m xs) i 0 h ∙ get_or-drop m xs i 0

-- past a row's end there is nothing to multiply
pub product_within : (k n : ℕ) (x : ℕ → ℕ) (ys : List ℕ) → n ≡ min (length ys) k → product n x (at (take n ys)) ≡ product k x (at ys)
product_within k n x ys h =
    product_cong n x (at (take n ys)) x (at ys) (λ c l. refl) (λ c l. get_or-take n ys c 0 l)
    ∙ elim (cases_lt k (length ys)) [
      | inl l ↦ ap (λ m. product m x (at ys)) (omega arith)
      | inr past ↦
          sym (ap (λ m. product m x (at ys)) (omega arith)
          ∙ product_past n (k - n) x (at ys) (λ c. ap (λ d. x (n + c) * d) (get_or_past ys (n + c) 0 (omega arith)) ∙ mul-zero (x (n + c))))
    ]
