-- No pair is bad exactly where the vectors are a matching family.
use Rattle.std.specs.Prelude.{◌≡◌, ℕ, ◌<◌, ◌≤◌, true, false, Some, None, Option, ◌==◌, ◌≢◌, nat_eq, refl}
use Rattle.std.proofs.Math.Logic.{inl, inr}
use Rattle.std.proofs.Math.Path.{sym, ap, subst}
use Rattle.std.proofs.Common.{◌∙◌}
use native.Mathlib.Omega.{arith}
use Rattle.std.proofs.lemmas.Bool.{cases_cond, cond-true, cond-false, eq-eqb, ne_eqb, eqb-true, eqb-false, both_ways}
use Rattle.family.specs.Vectors.{Vectors, Matches, pairing}
use Rattle.family.proofs.Allowing.{allowed_from, allowed_passes}
use Rattle.books.specs.Pairs.{fits, Keeps, FirstUnmatched, bad_partner, bad_position, bad_pair}
use Rattle.books.specs.Firsts.{first_most, first_is, passes, fails}
use Rattle.digits.proofs.Passing.{passed, some≢none}

taken_out : {X : Type 0} (x y : X) → ◌≡◌ {A = Option X} (Some x) (Some y) → x ≡ y
taken_out x y e = cc

module _ (f : Vectors) where
  matches_from : ((i j : ℕ) → i < f.count → j < f.count → fits f i j ≡ true) → Matches f
  matches_from all =
      record {
        alike = λ i h. (allowed_from i i (pairing f i i) (all i i h h)).0 refl;
        apart = λ i j h k ne. (allowed_from i j (pairing f i j) (all i j h k)).1 ne;
      }

  fits_from : Matches f → (i j : ℕ) → i < f.count → j < f.count → fits f i j ≡ true
  fits_from m i j h k = allowed_passes i j (pairing f i j) ((λ e. subst (λ x. pairing f i x ≡ 0) e (m.alike i h)), (λ ne. m.apart i j h k ne))

  pub matches_if_none : bad_pair f ≡ None → Matches f
  unfolding bad_partner bad_position
  matches_if_none e =
      let position = eqb-true (bad_position f) f.count (passed _ _ e) in
      matches_from
      (λ i j h k.
      let partner = eqb-true (bad_partner f i) f.count (passes (λ x. nat_eq (bad_partner f x) f.count) f.count i (omega arith)) in
      passes (fits f i) f.count j (omega arith))

  pub none_if_matches : Matches f → bad_pair f ≡ None
  unfolding bad_partner bad_position
  none_if_matches m =
      cond-true _ _ _
      (eq-eqb (bad_position f) f.count
      (first_is (λ i. nat_eq (bad_partner f i) f.count) f.count f.count (omega arith)
      (λ i h. eq-eqb (bad_partner f i) f.count (first_is (fits f i) f.count f.count (omega arith) (λ j k. fits_from m i j h k) (λ l. absurd (omega arith))))
      (λ l. absurd (omega arith))))

  -- a position that some j does not fit with, and the first such j
  bad_row : (i j : ℕ) → i < f.count → j ≡ bad_partner f i → (j ≢ f.count) →
      (j < f.count) × (Keeps f i j → ⊥) × ((b : ℕ) → b < j → Keeps f i b)
  unfolding bad_partner
  bad_row i j h is ne =
      let most : j ≤ f.count = omega (arith, first_most (fits f i) f.count) in
      let misfit : fits f i j ≡ false = ap (fits f i) is ∙ fails (fits f i) f.count (omega arith) in (
        omega arith,
        (λ keeps. both_ways (fits f i j) misfit (allowed_passes i j (pairing f i j) keeps)),
        (λ b l. allowed_from i b (pairing f i b) (passes (fits f i) f.count b (omega arith))),
      )

  first_at : (i j : ℕ) → i ≡ bad_position f → j ≡ bad_partner f (bad_position f) → (bad_position f ≢ f.count) → FirstUnmatched f i j
  unfolding bad_position bad_partner
  first_at i j at_i at_j found =
      let most : bad_position f ≤ f.count = first_most (λ k. nat_eq (bad_partner f k) f.count) f.count in
      let inside : i < f.count = omega arith in
      let misfit : nat_eq (bad_partner f i) f.count ≡ false =
      ap (λ k. nat_eq (bad_partner f k) f.count) at_i ∙ fails (λ k. nat_eq (bad_partner f k) f.count) f.count (omega arith) in
      let there : j ≡ bad_partner f i = at_j ∙ ap (bad_partner f) (sym at_i) in
      let row = bad_row i j inside there (λ e. eqb-false (bad_partner f i) f.count misfit (sym there ∙ e)) in
      record {
        below = (inside, row.0);
        breaks = row.1;
        before = λ a b ha hb earlier.
            elim earlier [
              | inl l ↦
                  let whole = eqb-true (bad_partner f a) f.count (passes (λ k. nat_eq (bad_partner f k) f.count) f.count a (omega arith)) in
                  allowed_from a b (pairing f a b) (passes (fits f a) f.count b (omega arith))
              | inr l ↦ subst (λ x. Keeps f x b) (sym l.0) (row.2 b l.1)
            ];
      }

  pub first_unmatched : (i j : ℕ) → bad_pair f ≡ Some (i, j) → FirstUnmatched f i j
  unfolding bad_position
  first_unmatched i j e =
      elim (cases_cond (bad_position f == f.count) None (Some (bad_position f, bad_partner f (bad_position f))) (Some (i, j)) (sym e)) [
        | inl none ↦ absurd (some≢none (i, j) none)
        | inr is ↦ first_at i j (ap (λ p. p.0) (taken_out _ _ is)) (ap (λ p. p.1) (taken_out _ _ is)) (λ e'. some≢none (i, j) (sym e ∙ cond-true _ _ _ (eq-eqb _ _ e')))
      ]

pub bad_pair_below : (f : Vectors) (i j : ℕ) → Some (i, j) ≡ bad_pair f → (i < f.count) × (j < f.count)
bad_pair_below f i j e = (first_unmatched f i j (sym e)).below

-- where each position before i fits with all, i decides
module _ (f : Vectors) (i : ℕ) (before : (k : ℕ) → k < i → (bad_partner f k == f.count) ≡ true) where
  pub bad_pair-at : (j : ℕ) → i < f.count → j ≡ bad_partner f i → (j ≢ f.count) → Some (i, j) ≡ bad_pair f
  unfolding bad_position
  bad_pair-at j h is ne =
      let bad = ne_eqb (bad_partner f i) f.count (λ e. ne (is ∙ e)) in
      let there : bad_position f ≡ i = first_is (λ k. nat_eq (bad_partner f k) f.count) f.count i (omega arith) before (λ l. bad) in
      ap (λ y. Some (i, y)) is
      ∙ sym (ap (λ x. Some (x, bad_partner f x)) there)
      ∙ sym (cond-false _ _ _ (ne_eqb (bad_position f) f.count (omega arith)))

  pub no_bad_pair : i ≡ f.count → None ≡ bad_pair f
  unfolding bad_position
  no_bad_pair e =
      let there = first_is (λ k. nat_eq (bad_partner f k) f.count) f.count i (omega arith) before (λ l. absurd (omega arith)) in
      sym (cond-true _ _ _ (eq-eqb (bad_position f) f.count (there ∙ e)))
