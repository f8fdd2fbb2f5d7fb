-- Sets of places of a word.
use Rattle.std.specs.Prelude.{ℕ, zero, suc, List, [], ◌∷◌, ◌++◌, map}
use Rattle.std.specs.List.{range_with_len, flat_map}

-- the lists of s places out of a list of places, in lexicographic order
unfoldable pub choose : ℕ → List ℕ → List (List ℕ)
choose zero ps = [] ∷ []
choose (suc s) [] = []
choose (suc s) (p ∷ ps) = map (λ places. p ∷ places) (choose s ps) ++ choose (suc s) ps

-- the sizes of the sets that coordinates stand for: no place, one place, two places
abbrev pub sizes : List ℕ
sizes = 0 ∷ 1 ∷ 2 ∷ []

-- all these sets for words of h letters, by size and then in lexicographic order
abbrev pub place_sets : ℕ → List (List ℕ)
place_sets h = flat_map (λ s. choose s (range_with_len 0 h)) sizes
