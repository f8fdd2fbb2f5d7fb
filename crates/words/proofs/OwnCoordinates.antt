-- A word's own coordinates: in rising order, and just those where u is 1.
use Rattle.std.proofs.Common.{◌≡◌, ℕ, zero, suc, ◌+◌, ◌*◌, ◌<◌, ◌≤◌, List, [], ◌∷◌, length, sym, refl, ap, ◌∙◌, inl, inr, not-suc-le-zero, mul-zero, zero-add, mul-one, arith}
use Rattle.std.proofs.lemmas.List.Sums.{sum_by-cons}
use Rattle.std.proofs.lemmas.Bool.{cases_lt, cases_order}
use Rattle.digits.specs.Rows.{at}
use Rattle.digits.specs.Sums.{total, same}
use Rattle.digits.proofs.Sums.{total_only, total_none, same_yes, same_no}
use Rattle.words.specs.Marks.{block, width, mark}
use Rattle.words.specs.Own.{own_from}
use Rattle.words.specs.ListSums.{sum_by-total}
use Rattle.words.specs.MarksLemmas.{own_sum, mark_past}
use Rattle.words.specs.Readings.{reading_lt}

pub length_own : (q : ℕ) (word : ℕ → ℕ) (start : ℕ) (sets : List (List ℕ)) → length (own_from q word start sets) ≡ length sets
unfolding own_from
length_own q word start [] = refl
length_own q word start (places ∷ sets) = ap suc (length_own q word (start + block q places) sets)

module _ (q : ℕ) (word : ℕ → ℕ) (low : (p : ℕ) → word p < q) where
  pub own_least : (sets : List (List ℕ)) (start k : ℕ) → k < length sets → start ≤ at (own_from q word start sets) k
  unfolding own_from
  own_least [] start k l = absurd (not-suc-le-zero l)
  own_least (places ∷ sets) start zero l = omega arith
  own_least (places ∷ sets) start (suc k) l = omega (arith, own_least sets (start + block q places) k (omega arith))

  pub own_most : (sets : List (List ℕ)) (start k : ℕ) → k < length sets → at (own_from q word start sets) k < start + width q sets
  unfolding own_from
  own_most [] start k l = absurd (not-suc-le-zero l)
  own_most (places ∷ sets) start zero l = omega (arith, reading_lt q word low places, sum_by-cons (block q) places sets)
  own_most (places ∷ sets) start (suc k) l =
      omega (arith, own_most sets (start + block q places) k (omega arith), sum_by-cons (block q) places sets)

  pub own_rising : (sets : List (List ℕ)) (start i j : ℕ) → i < j → j < length sets →
      at (own_from q word start sets) i < at (own_from q word start sets) j
  unfolding own_from
  own_rising [] start i j l m = absurd (not-suc-le-zero m)
  own_rising (places ∷ sets) start i zero l m = absurd (not-suc-le-zero l)
  own_rising (places ∷ sets) start zero (suc j) l m =
      omega (arith, reading_lt q word low places, own_least sets (start + block q places) j (omega arith))
  own_rising (places ∷ sets) start (suc i) (suc j) l m = own_rising sets (start + block q places) i j (omega arith) (omega arith)

  -- how often a coordinate is among the word's own
  own_count : (sets : List (List ℕ)) (c : ℕ) → c < width q sets →
      mark q (λ s. 1) word sets c ≡ total (length sets) (λ k. same (at (own_from q word 0 sets) k) c)
  own_count sets c l =
      sym (total_only (width q sets) c (λ i. mark q (λ s. 1) word sets i * same (0 + i) c) l
      (λ i b e. ap (λ a. mark q (λ s. 1) word sets i * a) (same_no (0 + i) c (λ f. e (omega arith))) ∙ mul-zero (mark q (λ s. 1) word sets i))
      ∙ ap (λ a. mark q (λ s. 1) word sets c * a) (same_yes (0 + c) c (zero-add c)) ∙ mul-one (mark q (λ s. 1) word sets c))
      ∙ own_sum q word low sets 0 (λ d. same d c)
      ∙ sum_by-total (λ d. same d c) (own_from q word 0 sets) 0
      ∙ ap (λ n. total n (λ k. same (at (own_from q word 0 sets) k) c)) (length_own q word 0 sets)

  pub own_found : (sets : List (List ℕ)) (c k : ℕ) → k < length sets → at (own_from q word 0 sets) k ≡ c → mark q (λ s. 1) word sets c ≡ 1
  own_found sets c k l e =
      own_count sets c (omega (arith, own_most sets 0 k l))
      ∙ total_only (length sets) k (λ k. same (at (own_from q word 0 sets) k) c) l
      (λ i b n. same_no _ _
      (λ f. elim (cases_order i k) [
        | inl g ↦ n g
        | inr g ↦ elim g [ inl g ↦ omega (arith, own_rising sets 0 i k g l) | inr g ↦ omega (arith, own_rising sets 0 k i g b) ]
      ]))
      ∙ same_yes _ _ e

  pub own_missing : (sets : List (List ℕ)) (c : ℕ) → ((k : ℕ) → k < length sets → at (own_from q word 0 sets) k ≡ c → ⊥) →
      mark q (λ s. 1) word sets c ≡ 0
  own_missing sets c h =
      elim (cases_lt c (width q sets)) [
        | inl l ↦
            own_count sets c l
            ∙ total_none (length sets) (λ k. same (at (own_from q word 0 sets) k) c) (λ k b. same_no _ _ (h k b))
        | inr l ↦ mark_past q (λ s. 1) word sets c l
      ]
