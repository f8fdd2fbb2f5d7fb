-- A position's letters: its digits in base q, written from the last place to the first.
use Rattle.std.proofs.Common.{◌≡◌, ℕ, suc, ◌-◌, ◌/◌, ◌%◌, ◌^◌, ◌<◌, ◌≤◌, List, length, set, sym, ap, ◌∙◌, inl, inr, pow-suc, arith}
use Rattle.std.proofs.Math.Nat.{div-div-eq-div-mul}
use Rattle.std.proofs.lemmas.List.FromFn.{fill_by_all}
use Rattle.std.proofs.lemmas.List.{get_or-set_same, get_or-set_other}
use Rattle.std.proofs.lemmas.Bool.{cases_eq}
use Rattle.digits.specs.Rows.{at, row}
use Rattle.digits.proofs.RowLaws.{length-row, at_row}
use Rattle.words.specs.Words.{letter}

-- the letters from place p on are written, and the rest is the number of the letters before it
pub record Written (h q t p : ℕ) (word : List ℕ) (rest : ℕ) : Type 0 where
  pub is_rest : rest ≡ t / q ^ (h - p)
  pub letters : (k : ℕ) → p ≤ k → k < h → at word k ≡ letter h q t k

pub written_more : (h q t p : ℕ) (word : List ℕ) (rest : ℕ) → 0 < p → p ≤ h → length word ≡ h → Written h q t p word rest →
    Written h q t (p - 1) (set word (p - 1) (rest % q)) (rest / q)
written_more h q t p word rest pos l long w = record {
  is_rest =
      ap (λ a. a / q) w.is_rest ∙ div-div-eq-div-mul t (q ^ (h - p)) q
      ∙ ap (λ n. t / n) (sym (pow-suc q (h - p)) ∙ ap (λ n. q ^ n) {x = suc (h - p)} {y = h - (p - 1)} (omega arith));
  letters = λ k a b.
      elim (cases_eq k (p - 1)) [
        | inl e ↦
            ap (at (set word (p - 1) (rest % q))) e ∙ get_or-set_same word (p - 1) (rest % q) 0 (omega arith)
            ∙ ap (λ a. a % q) w.is_rest ∙ ap (λ n. t / q ^ n % q) {x = h - p} {y = h - 1 - k} (omega arith)
        | inr e ↦ get_or-set_other word (p - 1) k (rest % q) 0 e ∙ w.letters k (omega arith) b
      ];
}

pub written_all : (h q t p : ℕ) (word : List ℕ) (rest : ℕ) → p ≤ 0 → length word ≡ h → Written h q t p word rest → word ≡ row h (letter h q t)
written_all h q t p word rest l long w = fill_by_all (letter h q t) word h 0 long (λ k b. w.letters k (omega arith) b)

-- a word that holds a position's letters
module _ (h q t : ℕ) (word : List ℕ) (is : word ≡ row h (letter h q t)) where
  pub word_len : length word ≡ h
  word_len = ap length is ∙ length-row h (letter h q t)

  pub word_at : (p : ℕ) → p < length word → at word p ≡ letter h q t p
  word_at p l = ap (λ xs. at xs p) is ∙ at_row h (letter h q t) p (omega (arith, word_len))
