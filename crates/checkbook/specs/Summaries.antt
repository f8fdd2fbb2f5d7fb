-- The summary of an examination, as text.
use Rattle.std.specs.Prelude.{ℕ, List, [], ◌∷◌, ◌++◌, Some, None, codes, decimal, Option}
use Rattle.std.specs.Result.{result_err}
use Rattle.faults.specs.declared.Fault.{Fault}
use Rattle.faults.specs.Text.{cause_text}
use Rattle.books.specs.Books.{book_fault, told_dimension, told_count, told_pairs}
use Rattle.books.specs.declared.report.Report.{Report}

-- a word, a space and a number, where the number was found
abbrev pub found_line : List ℕ → Option ℕ → List ℕ
found_line word None = []
found_line word (Some n) = word ++ (codes " " ++ (decimal n ++ (10 ∷ [])))

-- accepted, or refused with a fault
abbrev pub verdict_line : Option Fault → List ℕ
verdict_line None = codes "accepted" ++ (10 ∷ [])
verdict_line (Some fault) = codes "refused " ++ (cause_text fault.cause ++ (10 ∷ []))

-- a line for each part that was found, and the verdict last
abbrev pub lines_of : Option ℕ → Option ℕ → Option ℕ → Option Fault → List ℕ
lines_of dimension positions pairs fault =
    found_line (codes "dimension") dimension
    ++ (found_line (codes "positions") positions
    ++ (found_line (codes "pairs") pairs
    ++ verdict_line fault))

-- what a report is printed as
abbrev pub summary : Report → List ℕ
summary r = lines_of r.dimension r.positions r.pairs (result_err r.verdict)

-- what a row of bytes is answered with
abbrev pub summary_of : List ℕ → List ℕ
summary_of bs = lines_of (told_dimension bs) (told_count bs) (told_pairs bs) (book_fault bs)
