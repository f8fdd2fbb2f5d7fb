-- Recovery: what two sheets come to, and the entry read from it. (The usual word is reconstruction.)
use Rattle.std.specs.Prelude.{ℕ, ◌+◌, ◌-◌, ◌*◌, ◌%◌, Bool, cond, List, [], ◌∷◌, Some, None, Option}
use Rattle.digits.specs.Rows.{at}
use Rattle.digits.specs.Elements.{plus, times, scaled, turned, element_at, same_element}
use Rattle.digits.specs.Ring.{sum_of}
use Rattle.family.specs.Vectors.{Vectors}

-- Y1 and Y3: a sheet's value, its first six digits
abbrev pub value : List ℕ → List ℕ
value sheet = element_at sheet 0

-- a sheet's element of coordinate c, the six digits after those of the value and of the coordinates before
abbrev pub element_of : List ℕ → ℕ → List ℕ
element_of sheet c = element_at sheet (6 * (1 + c))

-- Y2 and Y4: the sum over all coordinates c of v(t)c times the sheet's element of c
abbrev pub slope : Vectors → ℕ → List ℕ → List ℕ
slope f t sheet = sum_of f.dim (λ c. scaled (f.v t c) (element_of sheet c))

-- the weights of Y1, Y2, Y3 and Y4
abbrev pub C1 : List ℕ
C1 = 0 ∷ 1 ∷ 0 ∷ 0 ∷ 2 ∷ 3 ∷ []

abbrev pub C2 : List ℕ
C2 = 0 ∷ 5 ∷ 0 ∷ 0 ∷ 4 ∷ 3 ∷ []

abbrev pub C3 : List ℕ
C3 = 0 ∷ 1 ∷ 0 ∷ 3 ∷ 2 ∷ 0 ∷ []

abbrev pub C4 : List ℕ
C4 = 0 ∷ 5 ∷ 0 ∷ 3 ∷ 4 ∷ 0 ∷ []

-- X where the entry is 1
abbrev pub D : List ℕ
D = 0 ∷ 2 ∷ 0 ∷ 3 ∷ 4 ∷ 3 ∷ []

-- W: the four, each with its weight
abbrev pub weighed : List ℕ → List ℕ → List ℕ → List ℕ → List ℕ
weighed y1 y2 y3 y4 = plus (plus (times C1 y1) (times C2 y2)) (plus (times C3 y3) (times C4 y4))

-- W of two sheets, the first host's and the second's, for position t
unfoldable pub sheets_weighed : Vectors → ℕ → List ℕ → List ℕ → List ℕ
sheets_weighed f t one two = weighed (value one) (slope f t one) (value two) (slope f t two)

-- X, what two sheets come to with the shift s: W divided by g to the power s
abbrev pub found : Vectors → ℕ → ℕ → List ℕ → List ℕ → List ℕ
found f t s one two = turned s (sheets_weighed f t one two)

-- X3 - X1
abbrev pub entry : List ℕ → ℕ
entry x = (at x 3 + 6 - at x 1) % 6

-- whether X is its entry times D; if not, the sheets are at odds
abbrev pub agrees : List ℕ → Bool
agrees x = same_element x (scaled (entry x) D)

-- the entry, or none where the sheets are at odds
abbrev pub read_entry : List ℕ → Option ℕ
read_entry x = cond (agrees x) (Some (entry x)) None
