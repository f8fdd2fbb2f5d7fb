-- Adding v to a row at a position's own coordinates alone.
use Rattle.std.proofs.Common.{◌≡◌, ℕ, zero, suc, ◌+◌, ◌%◌, ◌<◌, ◌≤◌, ◌⊎◌, List, length, set, sym, refl, ap, ◌∙◌, inl, inr, not-suc-le-zero, arith}
use Rattle.std.proofs.lemmas.List.{get_or-set_same, get_or-set_other}
use Rattle.std.proofs.lemmas.Bool.{cases_eq}
use Rattle.digits.specs.Rows.{at}
use Rattle.family.specs.Added.{added_at, added}
use Rattle.family.proofs.Adding.{added_zero, added_here, added_all}
use Rattle.words.specs.Own.{own_or_none}
use Rattle.words.specs.Words.{weight, size_at, word_digit}
use Rattle.words.proofs.Telling.{own_rises, v_found, v_missing}

-- whether a number is among the first n of a list
among : (xs : List ℕ) (x n : ℕ) → ((i : ℕ) × ((i < n) × (at xs i ≡ x))) ⊎ ((i : ℕ) → i < n → at xs i ≡ x → ⊥)
among xs x zero = inr (λ i l. absurd (not-suc-le-zero l))
among xs x (suc n) =
    elim (cases_eq (at xs n) x) [
      | inl e ↦ inl (n, (omega arith, e))
      | inr ne ↦
          elim (among xs x n) [
            | inl f ↦ inl (f.0, (omega (arith, f.1.0), f.1.1))
            | inr g ↦ inr (λ i l e. elim (cases_eq i n) [ inl m ↦ ne (ap (at xs) (sym m) ∙ e) | inr m ↦ g i (omega arith) e ])
          ]
    ]

-- the first k of some places are added to, and every other place is as it was
pub record Reached (v : ℕ → ℕ) (own : List ℕ) (k : ℕ) (xs ys : List ℕ) : Type 0 where
  pub there : (i : ℕ) → i < k → at own i < length xs → at ys (at own i) ≡ added_at v xs (at own i)
  pub others : (c : ℕ) → ((i : ℕ) → i < k → at own i ≡ c → ⊥) → at ys c ≡ at xs c

module _ (h q t : ℕ) (pos : 0 < q) (own : List ℕ) (is : own ≡ own_or_none h q t) (xs ys : List ℕ) where
  module _ (k d : ℕ) (inside : k < length own) (told : d ≡ weight h (size_at h q (at own k))) (reached : Reached (word_digit h q (weight h) t) own k xs ys) where
    -- an earlier place is another
    apart : (i : ℕ) → i < k → at own i ≡ at own k → ⊥
    apart i l e = absurd (omega (arith, own_rises h q t pos own is i k l inside))

    -- with what place k then holds, and all else as it was
    next : (zs : List ℕ) → (at own k < length xs → at zs (at own k) ≡ added_at (word_digit h q (weight h) t) xs (at own k)) →
        ((c : ℕ) → (c ≡ at own k → ⊥) → at zs c ≡ at ys c) → Reached (word_digit h q (weight h) t) own (k + 1) xs zs
    next zs here same = record {
      there = λ i l b.
          elim (cases_eq i k) [
            | inl e ↦ rw e (here (rw e at b))
            | inr ne ↦ same (at own i) (apart i (omega arith)) ∙ reached.there i (omega arith) b
          ];
      others = λ c none. same c (λ e. none k (omega arith) (sym e)) ∙ reached.others c (λ i l. none i (omega arith));
    }

    pub reached_more : length ys ≡ length xs → (d ≡ 0 → ⊥) →
        Reached (word_digit h q (weight h) t) own (k + 1) xs (set ys (at own k) ((at ys (at own k) + d) % 6))
    reached_more long nz =
        next (set ys (at own k) ((at ys (at own k) + d) % 6))
        (λ b. get_or-set_same ys (at own k) ((at ys (at own k) + d) % 6) 0 (omega arith)
        ∙ added_here (word_digit h q (weight h) t) xs (at own k) (at ys (at own k)) d (reached.others (at own k) apart)
        (told ∙ sym (v_found h q t pos own is k inside)) nz)
        (λ c ne. get_or-set_other ys (at own k) c ((at ys (at own k) + d) % 6) 0 ne)

    pub reached_past : d ≡ 0 → Reached (word_digit h q (weight h) t) own (k + 1) xs ys
    reached_past z =
        next ys
        (λ b. reached.others (at own k) apart
        ∙ sym (added_zero (word_digit h q (weight h) t) xs (at own k) (v_found h q t pos own is k inside ∙ sym told ∙ z)))
        (λ c ne. refl)

  pub reached_all : (k : ℕ) → length own ≤ k → k ≤ length own → length ys ≡ length xs → Reached (word_digit h q (weight h) t) own k xs ys →
      ys ≡ added (word_digit h q (weight h) t) xs
  reached_all k b b' long reached =
      added_all (word_digit h q (weight h) t) xs ys long
      (λ c l.
      elim (among own c k) [
        | inl f ↦
            ap (at ys) (sym f.1.1) ∙ reached.there f.0 f.1.0 (omega (arith, f.1.1))
            ∙ ap (added_at (word_digit h q (weight h) t) xs) f.1.1
        | inr none ↦
            reached.others c none
            ∙ sym (added_zero (word_digit h q (weight h) t) xs c (v_missing h q t pos own is c (λ i m. none i (omega arith))))
      ])
