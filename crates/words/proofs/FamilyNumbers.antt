-- The worked cases of families hold, and the law behind those of words.
use Rattle.std.proofs.Common.{◌≡◌, ℕ, ◌+◌, ◌-◌, ◌*◌, ◌%◌, ◌^◌, ◌<◌, ◌≤◌, true, cond, not, eqb, List, [], ◌∷◌, length, get_or, sym, refl, ap, ◌∙◌, inl, inr, arith}
use Rattle.std.specs.List.{range_with_len}
use Rattle.std.proofs.lemmas.List.FromFn.{length-range_with_len}
use Rattle.std.proofs.lemmas.List.Sums.{sum_by-cons}
use Rattle.std.proofs.lemmas.Bool.{cases_eq, eq-eqb, ne_eqb, eqb-true, cond-true, cond-false, not_from_true, not_from_false}
use Rattle.digits.specs.Sums.{total, same}
use Rattle.family.specs.Vectors.{pairing}
use Rattle.digits.specs.Elements.{times_digit}
use Rattle.words.specs.Agreement.{agreements, differences, binomial, by_agreement}
use Rattle.words.specs.Marks.{mark}
use Rattle.words.specs.Places.{choose}
use Rattle.words.specs.Words.{letter, word_digit, word_vectors}
use Rattle.words.specs.FamilyCases.{FamilyCases, DistanceLaw, distance}
use Rattle.words.specs.EachBelow.{each_below, from_each}
use Rattle.words.specs.Matching.{common, pairing_agreement}
use Rattle.digits.proofs.Sums.{same_yes, same_no}

-- words agree or differ at each place
agree_or_differ : (word other : ℕ → ℕ) (places : List ℕ) → agreements other word places + differences word other places ≡ length places
agree_or_differ word other [] = refl
agree_or_differ word other (p ∷ places) =
    let agreed = sum_by-cons (λ p. same (other p) (word p)) p places in
    let differed = sum_by-cons (λ p. cond (not (eqb (word p) (other p))) 1 0) p places in
    let rest = agree_or_differ word other places in
    elim (cases_eq (word p) (other p)) [
      | inl e ↦
          omega (
            arith,
            same_yes (other p) (word p) (sym e),
            cond-false {A = ℕ} (not (eqb (word p) (other p))) 1 0 (not_from_true (eqb (word p) (other p)) (eq-eqb (word p) (other p) e)),
          )
      | inr e ↦
          omega (
            arith,
            same_no (other p) (word p) (λ f. e (sym f)),
            cond-true {A = ℕ} (not (eqb (word p) (other p))) 1 0 (not_from_false (eqb (word p) (other p)) (ne_eqb (word p) (other p) e)),
          )
    ]

by_distance : each_below (λ h. each_below (λ d. eqb (by_agreement h (h - d)) (d * d % 6)) (h + 1)) 6 ≡ true
unfolding binomial
by_distance = refl

-- so many letters are common, and so many differ, that together they are all
common_or_differ : (h q t t' : ℕ) → common h q t t' + distance h q t t' ≡ h
common_or_differ h q t t' = agree_or_differ (letter h q t) (letter h q t') (range_with_len 0 h) ∙ length-range_with_len 0 h

pub squared : DistanceLaw
squared h q t t' some short two few l l' =
    let d : ℕ = distance h q t t' in
    let all = common_or_differ h q t t' in
    pairing_agreement h q t t' (omega arith) l l'
    ∙ ap (by_agreement h) {x = common h q t t'} {y = h - d} (omega arith)
    ∙ eqb-true _ _
    (from_each (λ d. eqb (by_agreement h (h - d)) (d * d % 6)) (h + 1)
    (from_each (λ h. each_below (λ d. eqb (by_agreement h (h - d)) (d * d % 6)) (h + 1)) 6 by_distance h (omega arith)) d (omega arith))

squares : each_below (λ d. eqb (d * d % 6) (get_or (0 ∷ 1 ∷ 4 ∷ 3 ∷ 4 ∷ 1 ∷ []) d 0)) 6 ≡ true
squares = refl

five : (q t t' : ℕ) → 2 ≤ q → q ≤ 16 → t < q ^ 5 → t' < q ^ 5 →
    pairing (word_vectors 5 q) t t' ≡ get_or (0 ∷ 1 ∷ 4 ∷ 3 ∷ 4 ∷ 1 ∷ []) (distance 5 q t t') 0
five q t t' some few l l' =
    let all = common_or_differ 5 q t t' in
    squared 5 q t t' (omega arith) (omega arith) some few l l'
    ∙ eqb-true _ _ (from_each (λ d. eqb (d * d % 6) (get_or (0 ∷ 1 ∷ 4 ∷ 3 ∷ 4 ∷ 1 ∷ []) d 0)) 6 squares (distance 5 q t t') (omega arith))

pub family_cases : FamilyCases
unfolding total mark choose word_digit times_digit
family_cases =
    record {
      first_u = refl;
      second_u = refl;
      second_v = refl;
      second_alike = refl;
      five_letters = five;
      zero_divisors = refl;
    }
