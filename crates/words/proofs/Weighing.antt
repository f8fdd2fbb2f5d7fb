-- v is u times the weight of the coordinate's size.
use Rattle.std.proofs.Common.{◌≡◌, ℕ, ◌+◌, ◌-◌, ◌*◌, ◌^◌, ◌<◌, ◌≤◌, ltb, List, [], ◌∷◌, ◌++◌, length, sym, ap, ◌∙◌, ap₂, inl, inr, not-suc-le-zero, mul_comm, one-mul, zero-mul, arith}
use native.Mathlib.Nat.{pow-zero}
use Rattle.std.specs.List.{range_with_len, AllByRecursion}
use Rattle.std.proofs.lemmas.List.{append-nil}
use Rattle.std.proofs.lemmas.List.Sums.{sum_by-cons}
use Rattle.std.proofs.lemmas.Bool.{cases_lt, lt-ltb, le-ltb, cond-true, cond-false}
use Rattle.digits.specs.Sums.{same}
use Rattle.words.specs.Marks.{reading, block, width, mark}
use Rattle.words.specs.Places.{choose, place_sets}
use Rattle.words.specs.Words.{letter, weight, size_at, word_digit}
use Rattle.words.specs.Choosing.{choose-sizes}
use Rattle.words.specs.Limits.{width_ones}
use Rattle.words.specs.MarksLemmas.{mark_here, mark_later, mark_past}
use Rattle.words.specs.Matching.{digit_at, digit_past}

module _ (q : ℕ) (weight word : ℕ → ℕ) (rest : List (List ℕ)) where
  -- in the blocks of sets of one size
  pub mark-within : (s : ℕ) (sets : List (List ℕ)) (c : ℕ) → AllByRecursion (λ places. length places ≡ s) sets → c < width q sets →
      mark q weight word (sets ++ rest) c ≡ mark q (λ s. 1) word (sets ++ rest) c * weight s
  mark-within s [] c h l = absurd (not-suc-le-zero l)
  mark-within s (places ∷ sets) c h l =
      let parts = sum_by-cons (block q) places sets in
      elim (cases_lt c (block q places)) [
        | inl b ↦
            mark_here q weight word places (sets ++ rest) c b
            ∙ ap (λ n. weight n * same (reading q word places) c) h.0
            ∙ mul_comm (weight s) (same (reading q word places) c)
            ∙ ap (λ a. a * weight s) (sym (mark_here q (λ s. 1) word places (sets ++ rest) c b ∙ one-mul (same (reading q word places) c)))
        | inr b ↦
            mark_later q weight word places (sets ++ rest) c b
            ∙ mark-within s sets (c - block q places) h.1 (omega arith)
            ∙ ap (λ a. a * weight s) (sym (mark_later q (λ s. 1) word places (sets ++ rest) c b))
      ]

  -- past them
  pub mark_beyond : (sets : List (List ℕ)) (c : ℕ) → width q sets ≤ c →
      mark q weight word (sets ++ rest) c ≡ mark q weight word rest (c - width q sets)
  mark_beyond [] c l = ap (mark q weight word rest) {x = c} {y = c - 0} (omega arith)
  mark_beyond (places ∷ sets) c l =
      let parts = sum_by-cons (block q) places sets in
      mark_later q weight word places (sets ++ rest) c (omega arith)
      ∙ mark_beyond sets (c - block q places) (omega arith)
      ∙ ap (mark q weight word rest) {x = c - block q places - width q sets} {y = c - width q (places ∷ sets)} (omega arith)

-- in the blocks of sets of one size, or past them all
mark_last : (q : ℕ) (weight word : ℕ → ℕ) (s : ℕ) (sets : List (List ℕ)) (c : ℕ) → AllByRecursion (λ places. length places ≡ s) sets →
    mark q weight word (sets ++ []) c ≡ mark q (λ s. 1) word (sets ++ []) c * weight s
mark_last q weight word s sets c h =
    elim (cases_lt c (width q sets)) [
      | inl l ↦ mark-within q weight word [] s sets c h l
      | inr l ↦
          let past : width q (sets ++ []) ≤ c = omega (arith, ap (width q) (append-nil sets)) in
          mark_past q weight word (sets ++ []) c past
          ∙ sym (ap (λ a. a * weight s) (mark_past q (λ s. 1) word (sets ++ []) c past) ∙ zero-mul (weight s))
    ]

module _ (h q : ℕ) (weight word : ℕ → ℕ) where
  ones : List (List ℕ)
  ones = choose 1 (range_with_len 0 h)

  twos : List (List ℕ)
  twos = choose 2 (range_with_len 0 h)

  width_none : width q (choose 0 (range_with_len 0 h)) ≡ 1
  unfolding choose
  width_none = ap (λ a. 0 + a) (pow-zero q)

  past_none : (w : ℕ → ℕ) (c : ℕ) → 1 ≤ c → mark q w word (place_sets h) c ≡ mark q w word (ones ++ (twos ++ [])) (c - 1)
  unfolding ones twos
  past_none w c l =
      mark_beyond q w word (choose 1 (range_with_len 0 h) ++ (choose 2 (range_with_len 0 h) ++ [])) (choose 0 (range_with_len 0 h)) c (omega (arith, width_none))
      ∙ ap (λ n. mark q w word (choose 1 (range_with_len 0 h) ++ (choose 2 (range_with_len 0 h) ++ [])) (c - n)) width_none

  past_ones : (w : ℕ → ℕ) (c : ℕ) → h * q ≤ c → mark q w word (ones ++ (twos ++ [])) c ≡ mark q w word (twos ++ []) (c - h * q)
  unfolding ones
  past_ones w c l =
      mark_beyond q w word (twos ++ []) (choose 1 (range_with_len 0 h)) c (omega (arith, width_ones h q))
      ∙ ap (λ n. mark q w word (twos ++ []) (c - n)) (width_ones h q)

  pub mark_weigh : (c : ℕ) → mark q weight word (place_sets h) c ≡ mark q (λ s. 1) word (place_sets h) c * weight (size_at h q c)
  unfolding ones twos
  mark_weigh c =
      elim (cases_lt c 1) [
        | inl l ↦
            mark-within q weight word (choose 1 (range_with_len 0 h) ++ (choose 2 (range_with_len 0 h) ++ [])) 0 (choose 0 (range_with_len 0 h)) c (choose-sizes 0 (range_with_len 0 h)) (omega (arith, width_none))
            ∙ ap (λ s. mark q (λ s. 1) word (place_sets h) c * weight s) (sym (cond-true (ltb c 1) 0 _ (lt-ltb c 1 l)))
        | inr l ↦
            past_none weight c l
            ∙ elim (cases_lt (c - 1) (h * q)) [
              | inl m ↦
                  mark-within q weight word (choose 2 (range_with_len 0 h) ++ []) 1 (choose 1 (range_with_len 0 h)) (c - 1) (choose-sizes 1 (range_with_len 0 h)) (omega (arith, width_ones h q))
                  ∙ ap₂ (λ a s. a * weight s) (sym (past_none (λ s. 1) c l))
                  (sym (cond-false (ltb c 1) 0 _ (le-ltb c 1 l) ∙ cond-true (ltb c (1 + h * q)) 1 2 (lt-ltb c (1 + h * q) (omega arith))))
              | inr m ↦
                  past_ones weight (c - 1) m
                  ∙ mark_last q weight word 2 (choose 2 (range_with_len 0 h)) (c - 1 - h * q) (choose-sizes 2 (range_with_len 0 h))
                  ∙ ap₂ (λ a s. a * weight s) (sym (past_none (λ s. 1) c l ∙ past_ones (λ s. 1) (c - 1) m))
                  (sym (cond-false (ltb c 1) 0 _ (le-ltb c 1 l) ∙ cond-false (ltb c (1 + h * q)) 1 2 (le-ltb c (1 + h * q) (omega arith))))
            ]
      ]

pub digit_weigh : (h q t c : ℕ) → word_digit h q (weight h) t c ≡ word_digit h q (λ s. 1) t c * weight h (size_at h q c)
digit_weigh h q t c =
    elim (cases_lt t (q ^ h)) [
      | inl l ↦
          digit_at h q (weight h) t c l ∙ mark_weigh h q (weight h) (letter h q t) c
          ∙ ap (λ a. a * weight h (size_at h q c)) (sym (digit_at h q (λ s. 1) t c l))
      | inr l ↦
          digit_past h q (weight h) t c l
          ∙ sym (ap (λ a. a * weight h (size_at h q c)) (digit_past h q (λ s. 1) t c l) ∙ zero-mul (weight h (size_at h q c)))
    ]
