-- The layout of a working: names in a column of 15 places, and digits in lines of at most 30.
use Rattle.std.specs.Prelude.{ℕ, zero, suc, ◌+◌, ◌-◌, ◌/◌, List, [], ◌∷◌, ◌++◌, length, take, drop, replicate, codes, decimal}
use Rattle.std.specs.Fmt.{char_count}
use Rattle.scheme.specs.Recovery.{value, element_of}
use Rattle.inquiry.specs.Text.{line}
use Rattle.working.specs.Workings.{Reckoned, Working}

-- a text with spaces after it, up to so many places
abbrev pub filled : ℕ → List ℕ → List ℕ
filled places text = text ++ replicate (places - char_count text) 32

-- a line: a name that fills 15 places, and numbers with a space before each
unfoldable pub row_text : List ℕ → List ℕ → List ℕ
row_text name numbers = line (filled 15 name) numbers

-- so many lines of a row of digits, 30 to a line: the name stands in the first alone
unfoldable pub lines_text : List ℕ → ℕ → List ℕ → List ℕ
lines_text name zero digits = []
lines_text name (suc n) digits = row_text name (take 30 digits) ++ lines_text [] n (drop 30 digits)

-- how many lines a row of digits takes
abbrev pub line_count : List ℕ → ℕ
line_count digits = (length digits + 29) / 30

-- a row of digits under a name
unfoldable pub block_text : List ℕ → List ℕ → List ℕ
block_text name digits = lines_text name (line_count digits) digits

-- the line of a sheet's element of coordinate c, whose name ends with that number
unfoldable pub element_text : ℕ → List ℕ → List ℕ
element_text c digits = row_text (codes "  element " ++ decimal c) digits

-- the lines of a sheet's elements of the coordinates below n
unfoldable pub elements_text : List ℕ → ℕ → List ℕ
elements_text sheet zero = []
elements_text sheet (suc c) = elements_text sheet c ++ element_text c (element_of sheet c)

-- of how many coordinates a sheet has the element: six digits each, after the six of the value
abbrev pub coordinates : List ℕ → ℕ
coordinates sheet = length sheet / 6 - 1

-- the lines of a sheet: its value, then its elements
unfoldable pub sheet_text : List ℕ → List ℕ
sheet_text sheet = row_text (codes "  value") (value sheet) ++ elements_text sheet (coordinates sheet)

-- what recovery reckons
unfoldable pub reckoned_text : Reckoned → List ℕ
reckoned_text r =
    row_text (codes "Y1") r.y1
    ++ (row_text (codes "Y2") r.y2
    ++ (row_text (codes "Y3") r.y3
    ++ (row_text (codes "Y4") r.y4
    ++ (row_text (codes "W") r.w
    ++ row_text (codes "X") r.x))))

-- what the request used, kept and showed
unfoldable pub request_text : Working → List ℕ
request_text w =
    row_text (codes "position") (w.findings.position ∷ [])
    ++ (block_text (codes "tape digits") w.tape
    ++ (row_text (codes "shift") (w.shift ∷ [])
    ++ (block_text (codes "first query") w.findings.first
    ++ block_text (codes "second query") w.findings.second)))

-- the two sheets, each under its name
unfoldable pub sheets_text : Working → List ℕ
sheets_text w =
    codes "first sheet\n"
    ++ (sheet_text w.findings.first_sheet
    ++ (codes "second sheet\n"
    ++ sheet_text w.findings.second_sheet))

-- the whole working
unfoldable pub working_text : Working → List ℕ
working_text w =
    request_text w
    ++ (sheets_text w
    ++ (reckoned_text w.reckoned
    ++ (row_text (codes "entry") (w.findings.entry ∷ [])
    ++ row_text (codes "carried") (w.findings.carried ∷ []))))
