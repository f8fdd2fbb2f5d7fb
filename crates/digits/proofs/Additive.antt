-- Additive maps: maps of elements that keep 0 and sums, such as multiplying by an element.
use Rattle.std.proofs.Common.{◌≡◌, ℕ, zero, suc, ◌+◌, ◌*◌, ◌%◌, List, sym, refl, ap, ap₂, ◌∙◌, zero-mul, arith}
use Rattle.digits.specs.Elements.{zero_element, plus, scaled}
use Rattle.digits.specs.Rows.{at}
use Rattle.digits.specs.Ring.{sum_of}
use Rattle.digits.proofs.RowLaws.{row_cong}
use Rattle.digits.proofs.RingSums.{at_scaled, plus-plus}

pub record Additive (m : List ℕ → List ℕ) : Type 0 where
  pub nothing : m zero_element ≡ zero_element
  pub sums : (x y : List ℕ) → m (plus x y) ≡ plus (m x) (m y)

pub additive_same : Additive (λ x. x)
additive_same = record { nothing = refl; sums = λ x y. refl }

-- one after the other
pub additive_then : (m o : List ℕ → List ℕ) → Additive m → Additive o → Additive (λ x. o (m x))
additive_then m o a b = record { nothing = ap o a.nothing ∙ b.nothing; sums = λ x y. ap o (a.sums x y) ∙ b.sums (m x) (m y) }

-- the sum of two
pub additive_plus : (m o : List ℕ → List ℕ) → Additive m → Additive o → Additive (λ x. plus (m x) (o x))
additive_plus m o a b = record {
  nothing = ap₂ plus a.nothing b.nothing;
  sums = λ x y. ap₂ plus (a.sums x y) (b.sums x y) ∙ plus-plus (m x) (m y) (o x) (o y);
}

-- elements of digits stay such
pub additive_element : (m : List ℕ → List ℕ) → Additive m → (x : List ℕ) → plus zero_element x ≡ x → plus zero_element (m x) ≡ m x
additive_element m a x is = ap (λ z. plus z (m x)) (sym a.nothing) ∙ sym (a.sums zero_element x) ∙ ap m is

pub additive_sum : (m : List ℕ → List ℕ) → Additive m → (n : ℕ) (e : ℕ → List ℕ) → m (sum_of n e) ≡ sum_of n (λ i. m (e i))
unfolding sum_of
additive_sum m a zero e = a.nothing
additive_sum m a (suc n) e = a.sums (sum_of n e) (e n) ∙ ap (λ s. plus s (m (e n))) (additive_sum m a n e)

-- a number of times is a sum, so these maps keep it too
scaled-suc : (n : ℕ) (x : List ℕ) → scaled (suc n) x ≡ plus (scaled n x) x
scaled-suc n x =
    row_cong 6 (λ r. suc n * at x r % 6) (λ r. (at (scaled n x) r + at x r) % 6)
    (λ r h. omega (arith, at_scaled n x r h))

scaled-zero : (x : List ℕ) → scaled 0 x ≡ zero_element
scaled-zero x = simp zero-mul

pub additive_scaled : (m : List ℕ → List ℕ) → Additive m → (n : ℕ) (x : List ℕ) → m (scaled n x) ≡ scaled n (m x)
additive_scaled m a zero x = ap m (scaled-zero x) ∙ a.nothing ∙ sym (scaled-zero (m x))
additive_scaled m a (suc n) x =
    ap m (scaled-suc n x) ∙ a.sums (scaled n x) x
    ∙ ap (λ s. plus s (m x)) (additive_scaled m a n x) ∙ sym (scaled-suc n (m x))
