-- The four equations: Y1 to Y4 of two sheets of one table, by the shares of its positions.
use Rattle.std.proofs.Common.{◌≡◌, ℕ, ◌+◌, ◌*◌, ◌%◌, ◌<◌, cond, eqb, ◌==◌, List, sym, ap, ◌∙◌, mul_comm, arith}
use Rattle.std.proofs.lemmas.Bool.Decides.{nat_tests}
use Rattle.std.proofs.lemmas.Bool.{eq-eqb, cond-true}
use Rattle.std.proofs.lemmas.Nat.{mul-mod_second}
use Rattle.digits.specs.Elements.{zero_element, plus, times, scaled}
use Rattle.digits.specs.Rows.{at, row}
use Rattle.digits.specs.Ring.{g, to_the, sum_of}
use Rattle.digits.proofs.RowLaws.{at_row}
use Rattle.digits.proofs.SumLaws.{total_add, total_mod}
use Rattle.digits.proofs.Additive.{Additive, additive_same, additive_then, additive_scaled}
use Rattle.digits.proofs.Powers.{g-plus}
use Rattle.digits.proofs.RingLaws.{additive_by, additive_number, scaled-scaled}
use Rattle.digits.proofs.RingSums.{zero-plus-row, sum_cong, sum_only}
use Rattle.family.specs.Vectors.{Vectors, MatchingFamily, Apart, pairing}
use Rattle.scheme.specs.Answers.{exponent, sheet_of}
use Rattle.scheme.specs.Published.{share, over_products}
use Rattle.scheme.specs.Queries.{second_query, shift}
use Rattle.scheme.specs.Recovery.{value, slope}
use Rattle.scheme.proofs.AnswerSums.{value_sum, slope_sum}
use Rattle.scheme.proofs.Shares.{numbered, sorted}

-- the exponent of the second query is the first's plus the product with v(t)
second_exponent : (f : Vectors) (t : ℕ) (z : List ℕ) (i : ℕ) → exponent f (second_query f t z) i ≡ (exponent f z i + pairing f i t) % 6
unfolding second_query
second_exponent f t z i =
    let k : ℕ = f.dim in
    total_mod k (λ c. f.u i c * at (row k (λ d. (at z d + f.v t d) % 6)) c) (λ c. f.u i c * at z c + f.u i c * f.v t c)
    (λ c b. ap (λ x. f.u i c * x % 6) (at_row k (λ d. (at z d + f.v t d) % 6) c b) ∙ omega (arith, mul-mod_second (f.u i c) (at z c + f.v t c) 6))
    ∙ omega (arith, total_add k (λ c. f.u i c * at z c) (λ c. f.u i c * f.v t c))

module _ (f : Vectors) (family : MatchingFamily f) (t : ℕ) (ht : t < f.count) (a : ℕ → ℕ) (z : List ℕ) where
  -- a(i) g^e(i)
  abbrev term : ℕ → List ℕ
  term i = scaled (a i) (to_the g (exponent f z i))

  -- what is done to each term by its product is done to the share of that product
  by_shares : (m : ℕ → List ℕ → List ℕ) → ((l : ℕ) → Additive (m l)) →
      sum_of f.count (λ i. m (pairing f i t) (term i)) ≡ over_products (λ l. m l (share f t a z l))
  by_shares m additive =
      sorted m additive f.count (λ i. pairing f i t) term
      (λ i h. numbered f family i t h ht)
      (λ i. zero-plus-row (λ r. a i * at (to_the g (exponent f z i)) r))

  -- at the second query a term is multiplied by g to the power of its product
  second_term : (i : ℕ) → scaled (a i) (to_the g (exponent f (second_query f t z) i)) ≡ times (term i) (to_the g (pairing f i t))
  second_term i =
      ap (λ e. scaled (a i) (to_the g e)) (second_exponent f t z i)
      ∙ ap (scaled (a i)) (g-plus (exponent f z i) (pairing f i t))
      ∙ sym (additive_scaled (λ x. times x (to_the g (pairing f i t))) (additive_by (to_the g (pairing f i t))) (a i) (to_the g (exponent f z i)))

  -- and in a slope it is multiplied by its product
  slope_term : (i : ℕ) (x : List ℕ) → scaled (a i * pairing f i t) x ≡ scaled (pairing f i t) (scaled (a i) x)
  slope_term i x = ap (λ n. scaled n x) (mul_comm (a i) (pairing f i t)) ∙ sym (scaled-scaled (pairing f i t) (a i) x)

  pub first_value_is : value (sheet_of f a z) ≡ over_products (λ l. share f t a z l)
  first_value_is = value_sum f a z ∙ by_shares (λ l x. x) (λ l. additive_same)

  pub first_slope_is : slope f t (sheet_of f a z) ≡ over_products (λ l. scaled l (share f t a z l))
  first_slope_is =
      slope_sum f t a z
      ∙ sum_cong f.count (λ i. scaled (a i * pairing f i t) (to_the g (exponent f z i))) (λ i. scaled (pairing f i t) (term i))
      (λ i h. slope_term i (to_the g (exponent f z i)))
      ∙ by_shares scaled additive_number

  pub second_value_is : value (sheet_of f a (second_query f t z)) ≡ over_products (λ l. times (share f t a z l) (to_the g l))
  second_value_is =
      value_sum f a (second_query f t z)
      ∙ sum_cong f.count (λ i. scaled (a i) (to_the g (exponent f (second_query f t z) i))) (λ i. times (term i) (to_the g (pairing f i t)))
      (λ i h. second_term i)
      ∙ by_shares (λ l x. times x (to_the g l)) (λ l. additive_by (to_the g l))

  pub second_slope_is : slope f t (sheet_of f a (second_query f t z)) ≡ over_products (λ l. scaled l (times (share f t a z l) (to_the g l)))
  second_slope_is =
      slope_sum f t a (second_query f t z)
      ∙ sum_cong f.count (λ i. scaled (a i * pairing f i t) (to_the g (exponent f (second_query f t z) i)))
      (λ i. scaled (pairing f i t) (times (term i) (to_the g (pairing f i t))))
      (λ i h. slope_term i (to_the g (exponent f (second_query f t z) i)) ∙ ap (scaled (pairing f i t)) (second_term i))
      ∙ by_shares (λ l x. scaled l (times x (to_the g l)))
      (λ l. additive_then (λ x. times x (to_the g l)) (scaled l) (additive_by (to_the g l)) (additive_number l))

  -- by the matching rule the product is 0 at t alone
  pub own_share_is : share f t a z 0 ≡ scaled (a t) (to_the g (shift f t z))
  own_share_is =
      let part : ℕ → List ℕ = λ i. cond (pairing f i t == 0) (term i) zero_element in
      sum_only f.count t part ht
      (λ i h ne. other_part (pairing f i t) (term i) (family.matches.apart i t h ht ne))
      ∙ ap (plus zero_element) (cond-true (eqb (pairing f t t) 0) (term t) zero_element (eq-eqb (pairing f t t) 0 (family.matches.alike t ht)))
      ∙ zero-plus-row (λ r. a t * at (to_the g (exponent f z t)) r)
    where
      other_part : (l : ℕ) (x : List ℕ) → Apart l → cond (l == 0) x zero_element ≡ zero_element
      other_part l x apart = grind (arith, nat_tests)
