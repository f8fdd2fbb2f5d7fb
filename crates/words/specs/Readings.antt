-- Readings of a word: below their block's size, equal where the letters are, and a whole word's is its position.
use Rattle.std.specs.Prelude.{◌≡◌, ℕ, zero, suc, ◌+◌, ◌-◌, ◌*◌, ◌/◌, ◌%◌, ◌^◌, ◌<◌, List, [], ◌∷◌, map, length, nat_eq, refl}
use Rattle.std.proofs.Common.{sym, ap, ap₂, ◌∙◌, inl, inr, mod-lt, pow-suc, add-mul, mul_assoc, zero-mul, zero-add, mul-one, div-add-mod', div-one, arith}
use Rattle.std.proofs.Math.Nat.{pow-succ', pow-zero, div-div-eq-div-mul, div-eq_of_lt}
use Rattle.std.proofs.Math.Arith.{digits_div, digits_mod}
use Rattle.std.specs.List.{range_with_len}
use Rattle.std.specs.Int.Digits.{number_from_digits, number_from_digits_after, AllBelowBase}
use Rattle.std.proofs.lemmas.Int.Digits.{number_lt}
use Rattle.std.proofs.lemmas.List.{length-map}
use Rattle.std.proofs.lemmas.List.Sums.{sum_by-cons, count_by-le-length}
use Rattle.std.proofs.lemmas.Bool.{cases_eq}
use Rattle.digits.specs.Sums.{same}
use Rattle.digits.proofs.Sums.{same_yes, same_no}
use Rattle.words.specs.Agreement.{agreements}
use Rattle.words.specs.Marks.{reading, block}
use Rattle.words.specs.Words.{letter}

-- two digits with the same weight are equal where the numbers are
same_digits : (n a b r s : ℕ) → r < n → s < n → same (a * n + r) (b * n + s) ≡ same a b * same r s
same_digits n a b r s hr hs =
    elim (cases_eq (a * n + r) (b * n + s)) [
      | inl e ↦
          let high : a ≡ b = sym (digits_div a hr) ∙ ap (λ x. x / n) e ∙ digits_div b hs in
          let low : r ≡ s = sym (digits_mod a hr) ∙ ap (λ x. x % n) e ∙ digits_mod b hs in
          same_yes _ _ e ∙ sym (ap₂ (λ x y. x * y) (same_yes a b high) (same_yes r s low))
      | inr e ↦
          same_no _ _ e
          ∙ elim (cases_eq a b) [
            | inl f ↦ sym (ap₂ (λ x y. x * y) (same_yes a b f) (same_no r s (λ g. e (ap₂ (λ x y. x * n + y) f g))))
            | inr f ↦ sym (ap (λ x. x * same r s) (same_no a b f) ∙ zero-mul (same r s))
          ]
    ]

number_after_split : (q n : ℕ) (ds : List ℕ) → number_from_digits_after q n ds ≡ n * q ^ length ds + number_from_digits q ds
number_after_split q n [] = sym (ap (λ a. n * a + 0) (pow-zero q) ∙ omega (arith, mul-one n))
number_after_split q n (d ∷ ds) =
    omega (
      arith,
      number_after_split q (n * q + d) ds,
      number_after_split q (0 * q + d) ds,
      ap (λ a. n * a) (pow-succ' q (length ds)),
      add-mul (n * q) d (q ^ length ds),
      mul_assoc n q (q ^ length ds),
      ap (λ a. (a + d) * q ^ length ds) (zero-mul q),
      ap (λ a. a * q ^ length ds) (zero-add d),
    )

under_map : (q : ℕ) (word : ℕ → ℕ) → ((p : ℕ) → word p < q) → (places : List ℕ) → AllBelowBase q (map word places)
under_map q word low [] = tt
under_map q word low (p ∷ places) = (low p, under_map q word low places)

module _ (q : ℕ) (word : ℕ → ℕ) (low : (p : ℕ) → word p < q) where
  pub reading_lt : (places : List ℕ) → reading q word places < block q places
  reading_lt places =
      omega (arith, number_lt q (map word places) (under_map q word low places), ap (λ n. q ^ n) (length-map places word))

  reading_more : (p : ℕ) (places : List ℕ) → reading q word (p ∷ places) ≡ word p * block q places + reading q word places
  reading_more p places =
      number_after_split q (0 * q + word p) (map word places)
      ∙ ap₂ (λ a n. a * q ^ n + reading q word places) (ap (λ a. a + word p) (zero-mul q) ∙ zero-add (word p)) (length-map places word)

-- two words read alike where they agree at the first place and read alike on the others
pub same-reading : (q : ℕ) (word other : ℕ → ℕ) → ((p : ℕ) → word p < q) → ((p : ℕ) → other p < q) → (p : ℕ) (places : List ℕ) →
    same (reading q word (p ∷ places)) (reading q other (p ∷ places)) ≡ same (word p) (other p) * same (reading q word places) (reading q other places)
same-reading q word other low low' p places =
    ap₂ same (reading_more q word low p places) (reading_more q other low' p places)
    ∙ same_digits (block q places) (word p) (other p) _ _ (reading_lt q word low places) (reading_lt q other low' places)

pub letter_lt : (h q t p : ℕ) → 0 < q → letter h q t p < q
letter_lt h q t p pos = mod-lt (t / q ^ (h - 1 - p)) pos

-- the places from a on, read after the letters before them
reads_on : (h q t a n : ℕ) → a + n ≡ h → number_from_digits_after q (t / q ^ n) (map (letter h q t) (range_with_len a n)) ≡ t
reads_on h q t a zero e = ap (λ b. t / b) (pow-zero q) ∙ div-one t
reads_on h q t a (suc n) e =
    ap (λ b. number_from_digits_after q b (map (letter h q t) (range_with_len (a + 1) n))) step ∙ reads_on h q t (a + 1) n (omega arith)
  where
    last : h - 1 - a ≡ n
    last = omega arith

    step : t / q ^ suc n * q + letter h q t a ≡ t / q ^ n
    step =
        ap₂ (λ b c. b * q + t / q ^ c % q) (ap (λ b. t / b) (pow-suc q n) ∙ sym (div-div-eq-div-mul t (q ^ n) q)) last
        ∙ div-add-mod' (t / q ^ n) q

-- the reading of a whole word is its position
pub word_number : (h q t : ℕ) → t < q ^ h → reading q (letter h q t) (range_with_len 0 h) ≡ t
word_number h q t l =
    ap (λ a. number_from_digits_after q a (map (letter h q t) (range_with_len 0 h))) (sym (div-eq_of_lt l)) ∙ reads_on h q t 0 h (zero-add h)

-- words that agree at as many places as there are have the same letters
pub agree_all : (word other : ℕ → ℕ) (places : List ℕ) → agreements word other places ≡ length places → map word places ≡ map other places
agree_all word other [] e = refl
agree_all word other (p ∷ places) e =
    let parts = sum_by-cons (λ p. same (word p) (other p)) p places in
    let most = count_by-le-length (λ p. nat_eq (word p) (other p)) places in
    elim (cases_eq (word p) (other p)) [
      | inl f ↦
          let here = same_yes (word p) (other p) f in
          ap₂ (λ a b. a ∷ b) f (agree_all word other places (omega arith))
      | inr f ↦ let here = same_no (word p) (other p) f in absurd (omega arith)
    ]

pub agree_self : (word : ℕ → ℕ) (places : List ℕ) → agreements word word places ≡ length places
agree_self word [] = refl
agree_self word (p ∷ places) =
    omega (arith, sum_by-cons (λ p. same (word p) (word p)) p places, same_yes (word p) (word p) refl, agree_self word places)
