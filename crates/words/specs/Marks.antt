-- Vectors that mark which letters a word has at which places.
use Rattle.std.specs.Prelude.{ℕ, ◌-◌, ◌*◌, ◌^◌, cond, List, [], ◌∷◌, map, length, sum_by, nat_lt}
use Rattle.std.specs.Int.Digits.{number_from_digits}
use Rattle.digits.specs.Sums.{same}

-- A word is told by the letter at each place. Its reading on some places: the number in base q of the letters there, the
-- most significant first.
abbrev pub reading : ℕ → (ℕ → ℕ) → List ℕ → ℕ
reading q word places = number_from_digits q (map word places)

-- Each set of places has a block of coordinates, one for each reading, and the blocks stand one after the other.
abbrev pub block : ℕ → List ℕ → ℕ
block q places = q ^ length places

abbrev pub width : ℕ → List (List ℕ) → ℕ
width q sets = sum_by (block q) sets

-- Digit c of a word's vector: in the block of a set, the weight of the set's size at the word's own reading, else 0.
unfoldable pub mark : ℕ → (ℕ → ℕ) → (ℕ → ℕ) → List (List ℕ) → ℕ → ℕ
mark q weight word [] c = 0
mark q weight word (places ∷ sets) c =
    cond (nat_lt c (block q places)) (weight (length places) * same (reading q word places) c) (mark q weight word sets (c - block q places))
