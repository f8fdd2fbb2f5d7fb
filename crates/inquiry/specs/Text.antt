-- What the program prints, as text.
use Rattle.std.specs.Prelude.{ℕ, List, [], ◌∷◌, ◌++◌, codes}
use Rattle.faults.specs.Text.{spaced}

-- a line: a word, and numbers in base ten with a space before each
abbrev pub line : List ℕ → List ℕ → List ℕ
line word numbers = word ++ (spaced numbers ++ 10 ∷ [])

-- a refusal, by its number
abbrev pub refusal_text : ℕ → List ℕ
refusal_text number = line (codes "refused") (number ∷ [])

-- What a lookup finds: the position, the queries that the two hosts were shown, the sheets that they answered, the digits carried,
-- and the entry.
pub record Findings : Type 0 where
  pub position : ℕ
  pub first : List ℕ
  pub second : List ℕ
  pub first_sheet : List ℕ
  pub second_sheet : List ℕ
  pub carried : ℕ
  pub entry : ℕ

-- the five lines that tell it, but for the sheets
abbrev pub findings_text : Findings → List ℕ
findings_text f =
    line (codes "position") (f.position ∷ [])
    ++ (line (codes "first") f.first
    ++ (line (codes "second") f.second
    ++ (line (codes "carried") (f.carried ∷ [])
    ++ line (codes "entry") (f.entry ∷ []))))
