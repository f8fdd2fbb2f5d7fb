-- The first part of a matching family is one.
use Rattle.std.specs.Prelude.{◌≡◌, ℕ, ◌<◌, ◌≤◌, min, ◌&&◌, nat_lt, refl}
use Rattle.std.proofs.Common.{sym, ◌∙◌, subst, inl, inr, arith}
use Rattle.std.proofs.lemmas.Bool.{cases_lt, cond_both}
use Rattle.digits.proofs.Sums.{product_cong}
use Rattle.family.specs.FirstParts.{first_part}
use Rattle.family.specs.Vectors.{Vectors, MatchingFamily, Told, Apart, within, pairing}
use Rattle.family.specs.Within.{within_in, within_digit, within_past_count, within_past_dim}

module _ (m : ℕ) (f : Vectors) where
  pub first_pairing : (i j : ℕ) → i < m → j < m → pairing (first_part m f) i j ≡ pairing f i j
  first_pairing i j hi hj =
      product_cong f.dim ((first_part m f).u i) ((first_part m f).v j) (f.u i) (f.v j)
      (λ c b. within_in m f.dim f.u i c hi b) (λ c b. within_in m f.dim f.v j c hj b)

  -- below m, u is that of the family, past the dimension too
  pub first_u : Told f → (i : ℕ) → i < m → (c : ℕ) → (first_part m f).u i c ≡ f.u i c
  first_u told i hi c =
      elim (cases_lt c f.dim) [
        | inl b ↦ within_in m f.dim f.u i c hi b
        | inr b ↦ within_past_dim m f.dim f.u i c b ∙ sym (told.u_past_dim i c b)
      ]

  -- beyond the count of the family itself its digits are 0 already
  first_past : (digit : ℕ → ℕ → ℕ) → ((i c : ℕ) → f.count ≤ i → digit i c ≡ 0) → (i c : ℕ) → min m f.count ≤ i → within m f.dim digit i c ≡ 0
  first_past digit past i c h =
      elim (cases_lt i m) [
        | inl b ↦ cond_both (nat_lt i m && nat_lt c f.dim) (digit i c) 0 (λ d. d ≡ 0) (λ e. past i c (omega arith)) (λ e. refl)
        | inr b ↦ within_past_count m f.dim digit i c b
      ]

  pub first_family : 1 ≤ m → MatchingFamily f → MatchingFamily (first_part m f)
  first_family some whole = record {
    limits = record { some = omega (arith, whole.limits.some); few = omega (arith, whole.limits.few); wide = whole.limits.wide; narrow = whole.limits.narrow };
    told = record {
      u_digit = within_digit m f.dim f.u (λ i c hi hc. whole.told.u_digit i c);
      v_digit = within_digit m f.dim f.v (λ i c hi hc. whole.told.v_digit i c);
      u_past_count = first_past f.u whole.told.u_past_count;
      v_past_count = first_past f.v whole.told.v_past_count;
      u_past_dim = within_past_dim m f.dim f.u;
      v_past_dim = within_past_dim m f.dim f.v;
    };
    matches = record {
      alike = λ i h. first_pairing i i (omega arith) (omega arith) ∙ whole.matches.alike i (omega arith);
      apart = λ i j hi hj ne.
          subst Apart (sym (first_pairing i j (omega arith) (omega arith))) (whole.matches.apart i j (omega arith) (omega arith) ne);
    };
  }
