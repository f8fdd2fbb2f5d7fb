-- The layout of a book, and its first part that is amiss.
use Rattle.std.specs.Prelude.{ℕ, ◌+◌, ◌-◌, cond, List, length, take, drop, Some, None, Option, ◌==◌, nat_lt}
use Rattle.faults.specs.declared.Fault.{Fault}
use Rattle.faults.specs.declared.Layer.TheVariants.{Family}
use Rattle.faults.specs.Faults.{length_fault, digit_fault, counts_fault}
use Rattle.digits.specs.Refusals.{or_else, limit_fault}
use Rattle.digits.specs.Rows.{first_above}
use Rattle.books.specs.Numbers.{big_endian, count_of, size_of}

-- A part is judged from what is left of the book where the part begins, and from the length of the whole book.

-- a part that is cut short is refused with the whole book's length
abbrev pub short_fault : ℕ → ℕ → List ℕ → Option Fault
short_fault len whole rest = cond (nat_lt (length rest) len) (Some (length_fault whole)) None

-- a number of so many bytes, which is refused unless it lies from 1 to the highest
abbrev pub limited_fault : ℕ → ℕ → ℕ → List ℕ → Option Fault
limited_fault len most whole rest = or_else (short_fault len whole rest) (limit_fault Family 1 most (big_endian len rest))

abbrev pub dimension_fault : List ℕ → Option Fault
dimension_fault bs = limited_fault 2 4096 (length bs) bs

abbrev pub count_fault : ℕ → List ℕ → Option Fault
count_fault whole rest = limited_fault 4 1024 whole rest

-- the second count has to be the first
abbrev pub second_fault : ℕ → ℕ → List ℕ → Option Fault
second_fault first whole rest =
    or_else (short_fault 4 whole rest) (cond (big_endian 4 rest == first) None (Some (counts_fault (big_endian 4 rest))))

-- so many digits: the first byte above 5 is named by its place in the whole book
abbrev pub section_fault : ℕ → ℕ → List ℕ → Option Fault
section_fault len whole rest =
    or_else (short_fault len whole rest)
    (cond (first_above (take len rest) == len) None (Some (digit_fault (whole - length rest + first_above (take len rest)))))

abbrev pub end_fault : ℕ → List ℕ → Option Fault
end_fault whole rest = cond (length rest == 0) None (Some (length_fault whole))

-- the two sections of so many digits each, with the second count between them, and nothing after
abbrev pub sections_fault : ℕ → ℕ → ℕ → List ℕ → Option Fault
sections_fault first size whole rest =
    or_else (section_fault size whole rest)
    (or_else (second_fault first whole (drop size rest))
    (or_else (section_fault size whole (drop (size + 4) rest))
    (end_fault whole (drop (size + 4 + size) rest))))

-- what is amiss with the layout of a book: the dimension, the first count, then the sections
unfoldable pub layout_fault : List ℕ → Option Fault
layout_fault bs =
    or_else (dimension_fault bs)
    (or_else (count_fault (length bs) (drop 2 bs)) (sections_fault (count_of bs) (size_of bs) (length bs) (drop 6 bs)))
