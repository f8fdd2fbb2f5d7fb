-- What is amiss with a book, and what an examination of it tells.
use Rattle.std.specs.Prelude.{ℕ, List, length, drop, Some, None, Option}
use Rattle.faults.specs.declared.Fault.{Fault}
use Rattle.digits.specs.Refusals.{or_else}
use Rattle.books.specs.BookVectors.{book_vectors}
use Rattle.books.specs.Numbers.{dimension_of, count_of}
use Rattle.books.specs.Layout.{dimension_fault, count_fault, layout_fault}
use Rattle.books.specs.Pairs.{bad_pair, pairs_fault, tried}

-- the layout first, and then the matching rule
abbrev pub book_fault : List ℕ → Option Fault
book_fault bs = or_else (layout_fault bs) (pairs_fault (book_vectors bs))

-- a number is told where nothing was amiss up to it
abbrev pub told : Option Fault → ℕ → Option ℕ
told None n = Some n
told (Some fault) n = None

abbrev pub told_dimension : List ℕ → Option ℕ
told_dimension bs = told (dimension_fault bs) (dimension_of bs)

abbrev pub told_count : List ℕ → Option ℕ
told_count bs = told (or_else (dimension_fault bs) (count_fault (length bs) (drop 2 bs))) (count_of bs)

-- how many pairs are tried, where the layout is in order
abbrev pub told_pairs : List ℕ → Option ℕ
told_pairs bs = told (layout_fault bs) (tried (count_of bs) (bad_pair (book_vectors bs)))
