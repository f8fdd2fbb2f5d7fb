-- The word family: positions are words of h letters from an alphabet of q.
use Rattle.std.specs.Prelude.{ℕ, ◌+◌, ◌-◌, ◌*◌, ◌/◌, ◌%◌, ◌^◌, cond, List, [], ◌∷◌, Option, nat_lt, slice_index, slice_index_or}
use Rattle.faults.specs.declared.Fault.{Fault}
use Rattle.faults.specs.declared.Layer.TheVariants.{Family}
use Rattle.digits.specs.Refusals.{or_else, limit_fault}
use Rattle.family.specs.Vectors.{Vectors}
use Rattle.words.specs.Marks.{mark}
use Rattle.words.specs.Places.{place_sets}

-- the word of position t: t in base q, as h letters, the most significant first
abbrev pub letter : ℕ → ℕ → ℕ → ℕ → ℕ
letter h q t p = t / q ^ (h - 1 - p) % q

-- the weights in v of the coordinates for no place, one place and two places, by the number of letters, from none on
abbrev pub weights : ℕ → List ℕ
weights h =
    slice_index_or
    ((0 ∷ 0 ∷ 0 ∷ [])
    ∷ (1 ∷ 5 ∷ 0 ∷ [])
    ∷ (4 ∷ 3 ∷ 2 ∷ [])
    ∷ (3 ∷ 1 ∷ 2 ∷ [])
    ∷ (4 ∷ 5 ∷ 2 ∷ [])
    ∷ (1 ∷ 3 ∷ 2 ∷ [])
    ∷ [])
    h []

abbrev pub weight : ℕ → ℕ → ℕ
weight h s = slice_index (weights h) s

-- for how many places coordinate c stands
abbrev pub size_at : ℕ → ℕ → ℕ → ℕ
size_at h q c = cond (nat_lt c 1) 0 (cond (nat_lt c (1 + h * q)) 1 2)

-- one coordinate for no place, one for each place and letter, and one for each two places and two letters
abbrev pub word_dim : ℕ → ℕ → ℕ
word_dim h q = 1 + h * q + h * (h - 1) / 2 * (q * q)

-- digit c of the vector of position t, with weights by the size of the set of places
unfoldable pub word_digit : ℕ → ℕ → (ℕ → ℕ) → ℕ → ℕ → ℕ
word_digit h q by_size t c = cond (nat_lt t (q ^ h)) (mark q by_size (letter h q t) (place_sets h) c) 0

-- u(t) is 1 at coordinate 0 and wherever the word of t has the coordinate's letters at its places; v(t) is its weight there
abbrev pub word_vectors : ℕ → ℕ → Vectors
word_vectors h q =
    record {
      count = q ^ h;
      dim = word_dim h q;
      u = word_digit h q (λ s. 1);
      v = word_digit h q (weight h);
    }

-- why a family of words is refused: the number of letters, else the alphabet
abbrev pub words_fault : ℕ → ℕ → Option Fault
words_fault h q = or_else (limit_fault Family 1 5 h) (limit_fault Family 2 16 q)
