-- The bad pair that a search by positions finds.
use Rattle.std.proofs.Common.{◌≡◌, ℕ, ◌<◌, MatchOption, IfSome, Some, None, Option, refl, ap, ◌∙◌, arith}
use Rattle.std.proofs.lemmas.Bool.{eq-eqb}
use Rattle.family.specs.Vectors.{Vectors}
use Rattle.books.specs.Matching.{bad_pair_below, bad_pair-at, no_bad_pair}
use Rattle.books.specs.Pairs.{bad_partner, bad_pair}

-- the pair is the position with the first that does not fit
abbrev pub BadAt : Vectors → ℕ → ℕ × ℕ → Type 0
BadAt f i p = (p.0 ≡ i) × (p.1 ≡ bad_partner f i) × (p.1 < f.count)

module _ (f : Vectors) where
  pub pair_found : (r : Option (ℕ × ℕ)) →
      MatchOption r ((k : ℕ) → k < f.count → bad_partner f k ≡ f.count) (λ p. (i : ℕ) × (i < f.count) × BadAt f i p × ((k : ℕ) → k < i → bad_partner f k ≡ f.count)) →
      r ≡ bad_pair f
  pair_found None all = no_bad_pair f f.count (λ k l. eq-eqb (bad_partner f k) f.count (all k l)) refl
  pair_found (Some p) found =
      let i : ℕ = found.0 in
      let bad : BadAt f i p = found.2 in
      ap (λ x. Some (x, p.1)) bad.0
      ∙ bad_pair-at f i (λ k l. eq-eqb (bad_partner f k) f.count (found.3 k l)) p.1 found.1 bad.1 (omega arith)

  -- both of its positions are below the count
  pub pair_below : (n : ℕ) (r : Option (ℕ × ℕ)) → n ≡ f.count → r ≡ bad_pair f → IfSome r (λ p. p.0 < n) × IfSome r (λ p. p.1 < n)
  pair_below n None counted e = (tt, tt)
  pair_below n (Some p) counted e = let below = bad_pair_below f p.0 p.1 e in (omega arith, omega arith)
