-- The grammar of an inquiry: which bytes it is read from, and what they say.
use Rattle.std.specs.Prelude.{ℕ, Bool, true, false, cond, ◌&&◌, List, [], ◌∷◌, length, Some, None, Option, option_and_then, slice_index, ◌==◌, nat_le, nat_lt}
use Rattle.std.specs.Char.{is_ascii_digit}
use Rattle.std.specs.List.{list_all, slice_split}
use Rattle.std.specs.Str.Parse.{digits_value}

-- the parts of a row of bytes between the bytes that equal a mark: one part more than there are marks
abbrev pub parts_at : ℕ → List ℕ → List (List ℕ)
parts_at mark bytes = slice_split (λ b. b == mark) bytes

-- whether a field is a number in base ten: one byte or more, and each from 48 to 57
abbrev pub is_numeral : List ℕ → Bool
is_numeral field = nat_lt 0 (length field) && list_all is_ascii_digit field

-- a field as a number: there is none where its value is above 4,294,967,295, however many zeros lead
abbrev pub number_in : List ℕ → Option ℕ
number_in field = cond (is_numeral field && nat_le (digits_value 10 field) 4294967295) (Some (digits_value 10 field)) None

-- all fields as numbers, or none where one is no number
abbrev pub numbers_of : List (List ℕ) → Option (List ℕ)
numbers_of [] = Some []
numbers_of (field ∷ fields) =
    option_and_then (λ n. option_and_then (λ ns. Some (n ∷ ns)) (numbers_of fields)) (number_in field)

-- the numbers of a line, with one space between each two; an empty line has none
abbrev pub line_numbers : List ℕ → Option (List ℕ)
line_numbers [] = Some []
line_numbers (b ∷ bs) = numbers_of (parts_at 32 (b ∷ bs))

-- a line of exactly so many numbers
abbrev pub exactly : ℕ → Option (List ℕ) → Option (List ℕ)
exactly n numbers = option_and_then (λ ns. cond (length ns == n) (Some ns) None) numbers

-- What an inquiry says: a family of words, a position in it, a host's table, and a tape.
pub record Said : Type 0 where
  pub letters : ℕ
  pub alphabet : ℕ
  pub position : ℕ
  pub table : List ℕ
  pub tape : List ℕ

-- with what an optional value tells, where it tells any (`?` in the code)
infixl 10 ◌>>=◌
abbrev pub ◌>>=◌ : {A B : Type 0} → Option A → (A → Option B) → Option B
o >>= f = option_and_then f o

-- what four lines say: the letters and the alphabet, the position, the table, the tape
unfoldable pub said_in : List ℕ → List ℕ → List ℕ → List ℕ → Option Said
said_in first second third fourth = do
  size ← exactly 2 (line_numbers first)
  position ← exactly 1 (line_numbers second)
  table ← line_numbers third
  tape ← line_numbers fourth
  Some (record { letters = slice_index size 0; alphabet = slice_index size 1; position = slice_index position 0; table = table; tape = tape })

-- what may stand behind the fourth line: nothing, or a line feed and nothing behind it
abbrev pub is_end : List (List ℕ) → Bool
is_end [] = true
is_end (line ∷ []) = length line == 0
is_end (line ∷ more ∷ lines) = false

-- what the lines say that stand between line feeds
unfoldable pub inquiry_in : List (List ℕ) → Option Said
inquiry_in (first ∷ second ∷ third ∷ fourth ∷ end) = cond (is_end end) (said_in first second third fourth) None
inquiry_in _ = None

-- the most bytes that an input may have
abbrev pub most_bytes : ℕ
most_bytes = 8192

-- what an input says, or none where it has another form or too many bytes
unfoldable pub inquiry_of : List ℕ → Option Said
inquiry_of input = cond (nat_le (length input) most_bytes) (inquiry_in (parts_at 10 input)) None
