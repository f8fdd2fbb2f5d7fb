-- Sums over the coordinates of a word's vector.
use Rattle.std.specs.Prelude.{◌≡◌, ℕ, ◌+◌, ◌-◌, ◌*◌, ◌<◌, ◌≤◌, List, [], ◌∷◌, length, sum_by}
use Rattle.std.proofs.Math.Path.{refl, sym, ap, ap₂}
use Rattle.std.proofs.Common.{◌∙◌, inl, inr, add_assoc, mul-zero, zero-mul, one-mul, mul-one, arith}
use Rattle.std.proofs.Math.Nat.{add-sub_cancel_left}
use Rattle.std.proofs.lemmas.List.Sums.{sum_by-cons}
use Rattle.std.proofs.lemmas.Bool.{cases_lt, cases_eq, lt-ltb, le-ltb, cond-true, cond-false}
use Rattle.digits.specs.Sums.{total, same}
use Rattle.digits.proofs.Sums.{total-append, total_cong, total_only, same_yes, same_no}
use Rattle.words.specs.Marks.{reading, block, width, mark}
use Rattle.words.specs.Own.{own_from}
use Rattle.words.specs.Readings.{reading_lt}

module _ (q : ℕ) (weight word : ℕ → ℕ) (places : List ℕ) (sets : List (List ℕ)) where
  -- in the first block
  pub mark_here : (c : ℕ) → c < block q places →
      mark q weight word (places ∷ sets) c ≡ weight (length places) * same (reading q word places) c
  unfolding mark
  mark_here c l = cond-true _ _ _ (lt-ltb c (block q places) l)

  -- past it
  pub mark_there : (c : ℕ) → mark q weight word (places ∷ sets) (block q places + c) ≡ mark q weight word sets c
  unfolding mark
  mark_there c =
      cond-false _ _ _ (le-ltb (block q places + c) (block q places) (omega arith))
      ∙ ap (mark q weight word sets) (add-sub_cancel_left (block q places) c)

-- the same, by the coordinate and not by the place in the rest
pub mark_later : (q : ℕ) (weight word : ℕ → ℕ) (places : List ℕ) (sets : List (List ℕ)) (c : ℕ) → block q places ≤ c →
    mark q weight word (places ∷ sets) c ≡ mark q weight word sets (c - block q places)
unfolding mark
mark_later q weight word places sets c l = cond-false _ _ _ (le-ltb c (block q places) l)

-- no digit past the last block
pub mark_past : (q : ℕ) (weight word : ℕ → ℕ) (sets : List (List ℕ)) (c : ℕ) → width q sets ≤ c → mark q weight word sets c ≡ 0
unfolding mark
mark_past q weight word [] c l = refl
mark_past q weight word (places ∷ sets) c l =
    let parts = sum_by-cons (block q) places sets in
    mark_later q weight word places sets c (omega arith)
    ∙ mark_past q weight word sets (c - block q places) (omega arith)

-- digits are at most the weights
pub mark_lt : (q : ℕ) (weight word : ℕ → ℕ) (n : ℕ) → ((s : ℕ) → weight s < n) → (sets : List (List ℕ)) (c : ℕ) → mark q weight word sets c < n
unfolding mark
mark_lt q weight word n low [] c = omega (arith, low 0)
mark_lt q weight word n low (places ∷ sets) c =
    elim (cases_lt c (block q places)) [
      | inl l ↦
          let here = mark_here q weight word places sets c l in
          elim (cases_eq (reading q word places) c) [
            | inl e ↦
                omega (arith, here, ap (λ a. weight (length places) * a) (same_yes _ _ e), mul-one (weight (length places)), low (length places))
            | inr e ↦
                omega (arith, here, ap (λ a. weight (length places) * a) (same_no _ _ e), mul-zero (weight (length places)), low (length places))
          ]
      | inr l ↦
          omega (arith, mark_later q weight word places sets c l, mark_lt q weight word n low sets (c - block q places))
    ]

module _ (q : ℕ) (word : ℕ → ℕ) (low : (p : ℕ) → word p < q) where
  -- a sum over all coordinates is the sum over the word's own
  pub own_sum : (sets : List (List ℕ)) (start : ℕ) (y : ℕ → ℕ) →
      total (width q sets) (λ c. mark q (λ s. 1) word sets c * y (start + c)) ≡ sum_by y (own_from q word start sets)
  unfolding total own_from
  own_sum [] start y = refl
  own_sum (places ∷ sets) start y =
      ap (λ n. total n term) (sum_by-cons (block q) places sets)
      ∙ total-append (block q places) (width q sets) term
      ∙ ap₂ (λ a b. a + b) first (rest ∙ own_sum sets (start + block q places) y)
      ∙ sym (sum_by-cons y (start + reading q word places) (own_from q word (start + block q places) sets))
    where
      term : ℕ → ℕ
      term c = mark q (λ s. 1) word (places ∷ sets) c * y (start + c)

      first : total (block q places) term ≡ y (start + reading q word places)
      first =
          total_only (block q places) (reading q word places) term (reading_lt q word low places)
          (λ i l e. ap (λ a. a * y (start + i)) (mark_here q (λ s. 1) word places sets i l ∙ ap (λ a. 1 * a) (same_no _ _ (λ f. e (sym f))))
          ∙ zero-mul (y (start + i)))
          ∙ ap (λ a. a * y (start + reading q word places))
          (mark_here q (λ s. 1) word places sets (reading q word places) (reading_lt q word low places) ∙ ap (λ a. 1 * a) (same_yes _ _ refl))
          ∙ one-mul (y (start + reading q word places))

      rest : total (width q sets) (λ c. term (block q places + c)) ≡ total (width q sets) (λ c. mark q (λ s. 1) word sets c * y (start + block q places + c))
      rest =
          total_cong (width q sets) _ _
          (λ c l. ap₂ (λ a b. a * y b) (mark_there q (λ s. 1) word places sets c) (sym (add_assoc start (block q places) c)))

  -- at the word's own coordinates another word's vector has the weights of the sets on which the two read alike
  pub own_marks : (weight other : ℕ → ℕ) (sets : List (List ℕ)) (start : ℕ) (y : ℕ → ℕ) →
      ((c : ℕ) → y (start + c) ≡ mark q weight other sets c) →
      sum_by y (own_from q word start sets) ≡ sum_by (λ places. weight (length places) * same (reading q other places) (reading q word places)) sets
  unfolding own_from
  own_marks weight other [] start y h = refl
  own_marks weight other (places ∷ sets) start y h =
      sum_by-cons y (start + reading q word places) (own_from q word (start + block q places) sets)
      ∙ ap₂ (λ a b. a + b)
      (h (reading q word places) ∙ mark_here q weight other places sets (reading q word places) (reading_lt q word low places))
      (own_marks weight other sets (start + block q places) y
      (λ c. ap y (add_assoc start (block q places) c) ∙ h (block q places + c) ∙ mark_there q weight other places sets c))
      ∙ sym (sum_by-cons (λ places. weight (length places) * same (reading q other places) (reading q word places)) places sets)
