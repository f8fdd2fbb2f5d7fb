-- Worked cases of families, by their numbers, and the law behind those of words.
use Rattle.std.specs.Prelude.{◌≡◌, ℕ, ◌*◌, ◌%◌, ◌^◌, ◌<◌, ◌≤◌, [], ◌∷◌, slice_index}
use Rattle.std.specs.List.{range_with_len}
use Rattle.digits.specs.Elements.{power, times, zero_element}
use Rattle.digits.specs.Rows.{row}
use Rattle.family.specs.Vectors.{Vectors, pairing}
use Rattle.words.specs.Agreement.{differences}
use Rattle.words.specs.Words.{letter, word_vectors}

-- words of one letter from an alphabet of two
abbrev pub smallest : Vectors
smallest = word_vectors 1 2

-- in how many letters the words of two positions differ
abbrev pub distance : ℕ → ℕ → ℕ → ℕ → ℕ
distance h q t t' = differences (letter h q t) (letter h q t') (range_with_len 0 h)

-- the product of u and v of two words, by the number of letters in which they differ, for words of 1 to 5 letters
abbrev pub DistanceLaw : Type 0
DistanceLaw =
    (h q t t' : ℕ) → 1 ≤ h → h ≤ 5 → 2 ≤ q → q ≤ 16 → t < q ^ h → t' < q ^ h →
    pairing (word_vectors h q) t t' ≡ distance h q t t' * distance h q t t' % 6

pub record FamilyCases : Type 0 where
  -- the first word's u: coordinate 0, and its letter 0
  pub first_u : row 3 (smallest.u 0) ≡ 1 ∷ 1 ∷ 0 ∷ []
  -- the second word's u and v: coordinate 0, and its letter 1
  pub second_u : row 3 (smallest.u 1) ≡ 1 ∷ 0 ∷ 1 ∷ []
  pub second_v : row 3 (smallest.v 1) ≡ 1 ∷ 0 ∷ 5 ∷ []
  -- their product, 1 + 5, modulo 6
  pub second_alike : pairing smallest 1 1 ≡ 0
  -- words of five letters that differ at 0, 1, 2, 3, 4 and 5 places
  pub five_letters : (q t t' : ℕ) → 2 ≤ q → q ≤ 16 → t < q ^ 5 → t' < q ^ 5 →
      pairing (word_vectors 5 q) t t' ≡ slice_index (0 ∷ 1 ∷ 4 ∷ 3 ∷ 4 ∷ 1 ∷ []) (distance 5 q t t')
  -- 3 g^2 times 2 g^4 is the zero element, though neither factor is
  pub zero_divisors : times (power 3 2) (power 2 4) ≡ zero_element
