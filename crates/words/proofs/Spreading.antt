-- Spreading over a position's own coordinates.
use Rattle.std.proofs.Common.{◌≡◌, ℕ, ◌+◌, ◌*◌, ◌%◌, ◌<◌, ◌≤◌, List, length, get_or, set, sym, refl, ap, ◌∙◌, subst, inl, inr, mul-one, arith}
use Rattle.std.proofs.lemmas.List.{get_or_default, get_or_past}
use Rattle.std.proofs.lemmas.Bool.{cases_lt, cases_order}
use Rattle.digits.specs.Rows.{at}
use Rattle.family.specs.Spread.{spread}
use Rattle.family.specs.Spreads.{Passed, none_passed, adds, all_passed, skips_to}
use Rattle.words.specs.Own.{own_or_none}
use Rattle.words.specs.Words.{word_dim, word_digit}
use Rattle.words.specs.Matching.{digit_past_dim}
use Rattle.words.proofs.Telling.{own_lt, own_rises, u_found, u_missing}

-- Of a position that has these own coordinates, the coordinates below the next of them, after so many, are spread over.
abbrev pub PassedOwn : List ℕ → ℕ → ℕ → ℕ → List ℕ → List ℕ → Type 0
PassedOwn own k amount e before after =
    (h q t : ℕ) → 0 < q → own ≡ own_or_none h q t →
    Passed (word_digit h q (λ s. 1) t) amount e (get_or own k (word_dim h q)) before after

module _ (h q t : ℕ) (pos : 0 < q) (own : List ℕ) (is : own ≡ own_or_none h q t) (amount e : ℕ) (xs : List ℕ) where
  -- the coordinate that is next after k of the own ones, or the dimension
  abbrev pub next : ℕ → ℕ
  next k = get_or own k (word_dim h q)

  next_at : (k : ℕ) → k < length own → next k ≡ at own k
  next_at k b = get_or_default own k (word_dim h q) 0 b

  -- u is 0 before the first own coordinate
  pub spread_none : Passed (word_digit h q (λ s. 1) t) amount e (next 0) xs xs
  spread_none =
      skips_to (word_digit h q (λ s. 1) t) amount e 0 (next 0) xs xs (omega arith)
      (λ c a b.
      u_missing h q t pos own is c
      (λ k l f.
      elim (cases_lt 0 k) [
        | inl g ↦ omega (arith, next_at 0 (omega arith), own_rises h q t pos own is 0 k g l)
        | inr g ↦ omega (arith, next_at k l, ap next {x = k} {y = 0} (omega arith))
      ]))
      (none_passed (word_digit h q (λ s. 1) t) amount e xs)

  -- u is 0 between an own coordinate and the next
  gap : (k c : ℕ) → k < length own → at own k < c → c < next (k + 1) → word_digit h q (λ s. 1) t c ≡ 0
  gap k c b above below =
      u_missing h q t pos own is c
      (λ i a f.
      elim (cases_order i k) [
        | inl g ↦ omega (arith, ap (at own) g)
        | inr g ↦
            elim g [
              | inl g ↦ omega (arith, own_rises h q t pos own is i k g b)
              | inr g ↦
                  elim (cases_order i (k + 1)) [
                    | inl m ↦ omega (arith, ap (at own) m, next_at (k + 1) (omega arith))
                    | inr m ↦
                        elim m [
                          | inl m ↦ omega arith
                          | inr m ↦ omega (arith, own_rises h q t pos own is (k + 1) i m a, next_at (k + 1) (omega arith))
                        ]
                  ]
            ]
      ])

  after : (k : ℕ) → k < length own → at own k + 1 ≤ next (k + 1)
  after k b =
      elim (cases_lt (k + 1) (length own)) [
        | inl m ↦ omega (arith, next_at (k + 1) m, own_rises h q t pos own is k (k + 1) (omega arith) m)
        | inr m ↦ omega (arith, get_or_past own (k + 1) (word_dim h q) m, own_lt h q t pos own is k b)
      ]

  pub spread_more : (k a : ℕ) (ys : List ℕ) → k < length own → a ≡ amount → length ys ≡ length xs → Passed (word_digit h q (λ s. 1) t) amount e (next k) xs ys →
      Passed (word_digit h q (λ s. 1) t) amount e (next (k + 1)) xs (set ys (6 * at own k + e % 6) ((at ys (6 * at own k + e % 6) + a) % 6))
  spread_more k a ys b whole long passed =
      skips_to (word_digit h q (λ s. 1) t) amount e (at own k + 1) (next (k + 1)) xs _ (after k b) (λ i a m. gap k i b (omega arith) m)
      (subst (λ a. Passed (word_digit h q (λ s. 1) t) amount e (at own k + 1) xs (set ys (6 * at own k + e % 6) ((at ys (6 * at own k + e % 6) + a) % 6)))
      (mul-one amount ∙ sym whole)
      (adds (word_digit h q (λ s. 1) t) amount e (at own k) xs ys (subst (λ c. Passed (word_digit h q (λ s. 1) t) amount e c xs ys) (next_at k b) passed)
      (6 * at own k + e % 6) 1 long refl (sym (u_found h q t pos own is (at own k) k b refl)) (omega arith)))

  pub spread_all : (k : ℕ) (ys : List ℕ) → length own ≤ k → length ys ≡ length xs → Passed (word_digit h q (λ s. 1) t) amount e (next k) xs ys →
      ys ≡ spread (word_digit h q (λ s. 1) t) amount e xs
  spread_all k ys b long passed =
      all_passed (word_digit h q (λ s. 1) t) amount e (word_dim h q) xs ys (λ c m. digit_past_dim h q (λ s. 1) t c m) long
      (subst (λ c. Passed (word_digit h q (λ s. 1) t) amount e c xs ys) (get_or_past own k (word_dim h q) b) passed)
