-- Sorting by products: a sum over all positions, of terms that depend on a position's product, goes by the shares.
use Rattle.std.proofs.Common.{◌≡◌, ℕ, ◌+◌, ◌/◌, ◌<◌, cond, eqb, ◌==◌, List, sym, ap, ap₂, ◌∙◌, inl, inr, arith}
use Rattle.std.proofs.lemmas.Bool.Decides.{nat_tests}
use Rattle.std.proofs.lemmas.Bool.{cases_eq, ne_eqb, cond-false}
use Rattle.digits.specs.Elements.{zero_element, plus, scaled}
use Rattle.digits.specs.Ring.{g, to_the, sum_of}
use Rattle.digits.proofs.Additive.{Additive, additive_element, additive_sum}
use Rattle.digits.proofs.RingSums.{sum_cong, sum_swap, sum_only, sum_of-element}
use Rattle.family.specs.Vectors.{Vectors, MatchingFamily, Apart, pairing}
use Rattle.scheme.specs.Answers.{exponent}
use Rattle.scheme.specs.Published.{allowed_product, over_products, share}

-- a share is an element of digits
pub share_element : (f : Vectors) (t : ℕ) (a : ℕ → ℕ) (z : List ℕ) (l : ℕ) → plus zero_element (share f t a z l) ≡ share f t a z l
share_element f t a z l = sum_of-element f.count (λ i. cond (pairing f i t == l) (scaled (a i) (to_the g (exponent f z i))) zero_element)

-- a number is one of the four products
abbrev pub Numbered : ℕ → Type 0
Numbered l = (j : ℕ) × (j < 4) × (l ≡ allowed_product j)

-- no two of them are equal: they are j + j / 2
product_number : (j : ℕ) → j < 4 → allowed_product j ≡ j + j / 2
product_number j h = grind arith

-- the matching rule allows no other
pub numbered : (f : Vectors) → MatchingFamily f → (i t : ℕ) → i < f.count → t < f.count → Numbered (pairing f i t)
numbered f family i t hi ht =
    elim (cases_eq i t) [
      | inl e ↦ (0, omega arith, ap (λ k. pairing f k t) e ∙ family.matches.alike t ht)
      | inr ne ↦ apart_number (pairing f i t) (family.matches.apart i t hi ht ne)
    ]
  where
    apart_number : (r : ℕ) → Apart r → Numbered r
    apart_number r (inl e) = (1, omega arith, e)
    apart_number r (inr (inl e)) = (2, omega arith, e)
    apart_number r (inr (inr e)) = (3, omega arith, e)

-- Let m l be what is done to a term of product l, and to a share of product l. Where each m l keeps sums, both come to one.
module _ (m : ℕ → List ℕ → List ℕ) (additive : (l : ℕ) → Additive (m l)) where
  one_sorted : (l : ℕ) (x : List ℕ) → Numbered l → plus zero_element x ≡ x →
      m l x ≡ over_products (λ k. m k (cond (l == k) x zero_element))
  one_sorted l x (j, few, is) element =
      let part : ℕ → List ℕ = λ n. cond (l == allowed_product n) x zero_element in
      let own : part j ≡ x = grind (arith, nat_tests) in
      let differ : (n : ℕ) → n < 4 → (n ≡ j → ⊥) → l ≡ allowed_product n → ⊥ =
      λ n h ne e. ne (omega (arith, product_number n h, product_number j few)) in
      sym (additive_element (m l) (additive l) x element)
      ∙ ap (plus zero_element) (ap₂ m is (sym own))
      ∙ sym (sum_only 4 j (λ n. m (allowed_product n) (part n)) few
      (λ n h ne.
      ap (m (allowed_product n)) (cond-false (eqb l (allowed_product n)) x zero_element (ne_eqb l (allowed_product n) (differ n h ne)))
      ∙ (additive (allowed_product n)).nothing))

  pub sorted : (n : ℕ) (l : ℕ → ℕ) (x : ℕ → List ℕ) →
      ((i : ℕ) → i < n → Numbered (l i)) → ((i : ℕ) → plus zero_element (x i) ≡ x i) →
      sum_of n (λ i. m (l i) (x i)) ≡ over_products (λ k. m k (sum_of n (λ i. cond (l i == k) (x i) zero_element)))
  sorted n l x number element =
      let part : ℕ → ℕ → List ℕ = λ j i. cond (l i == allowed_product j) (x i) zero_element in
      sum_cong n (λ i. m (l i) (x i)) (λ i. sum_of 4 (λ j. m (allowed_product j) (part j i)))
      (λ i h. one_sorted (l i) (x i) (number i h) (element i))
      ∙ sum_swap n 4 (λ i j. m (allowed_product j) (part j i))
      ∙ sum_cong 4 (λ j. sum_of n (λ i. m (allowed_product j) (part j i))) (λ j. m (allowed_product j) (sum_of n (part j)))
      (λ j h. sym (additive_sum (m (allowed_product j)) (additive (allowed_product j)) n (part j)))
