-- The coordinates of a word's own: those where its vectors are not 0.
use Rattle.std.specs.Prelude.{ℕ, ◌+◌, ◌^◌, cond, List, [], ◌∷◌, nat_lt}
use Rattle.words.specs.Marks.{reading, block}
use Rattle.words.specs.Places.{place_sets}
use Rattle.words.specs.Words.{letter}

-- one in the block of each set, where the first block begins at the coordinate `start`
unfoldable pub own_from : ℕ → (ℕ → ℕ) → ℕ → List (List ℕ) → List ℕ
own_from q word start [] = []
own_from q word start (places ∷ sets) = (start + reading q word places) ∷ own_from q word (start + block q places) sets

abbrev pub own_coordinates : ℕ → ℕ → ℕ → List ℕ
own_coordinates h q t = own_from q (letter h q t) 0 (place_sets h)

-- the same for a position that there is; past the last one there are none
abbrev pub own_or_none : ℕ → ℕ → ℕ → List ℕ
own_or_none h q t = cond (nat_lt t (q ^ h)) (own_coordinates h q t) []
