-- Which rows and numbers are refused, and with which fault.
use Rattle.std.specs.Prelude.{ℕ, cond, ◌&&◌, List, length, Some, None, Option, ◌==◌, nat_le, nat_lt}
use Rattle.faults.specs.declared.Fault.{Fault}
use Rattle.faults.specs.declared.Layer.{Layer}
use Rattle.faults.specs.Faults.{length_fault, digit_fault, size_fault, position_fault}
use Rattle.digits.specs.Rows.{first_above}

-- the first fault of two, in their order
abbrev pub or_else : Option Fault → Option Fault → Option Fault
or_else None second = second
or_else (Some fault) second = Some fault

-- what is amiss with a row of bytes as digits: the place of the first above 5
abbrev pub digits_fault : List ℕ → Option Fault
digits_fault xs = cond (first_above xs == length xs) None (Some (digit_fault (first_above xs)))

-- what is amiss with a lone digit, which has place 0
abbrev pub lone_fault : ℕ → Option Fault
lone_fault d = cond (nat_lt d 6) None (Some (digit_fault 0))

-- what is amiss with a length that must be n: the length found
abbrev pub width_fault : ℕ → ℕ → Option Fault
width_fault n found = cond (found == n) None (Some (length_fault found))

-- what is amiss with a row that must have n bytes: the length found
abbrev pub long_fault : ℕ → List ℕ → Option Fault
long_fault n xs = width_fault n (length xs)

-- what is amiss with a row that is to be n digits: its length, else its first byte above 5
abbrev pub row_fault : ℕ → List ℕ → Option Fault
row_fault n xs = or_else (long_fault n xs) (digits_fault xs)

-- what is amiss with two vectors that are to be multiplied: the second's length, then the digits of each
abbrev pub vectors_fault : List ℕ → List ℕ → Option Fault
vectors_fault xs ys = or_else (long_fault (length xs) ys) (or_else (digits_fault xs) (digits_fault ys))

-- what is amiss with a number that the part called takes from low to high alone: the number found
abbrev pub limit_fault : Layer → ℕ → ℕ → ℕ → Option Fault
limit_fault part low high n = cond (nat_le low n && nat_le n high) None (Some (size_fault part n))

-- what is amiss with a count or a dimension that the part called needs to be n: the number found
abbrev pub equal_fault : Layer → ℕ → ℕ → Option Fault
equal_fault part n found = cond (found == n) None (Some (size_fault part found))

-- what is amiss with a position that must be below n: the position
abbrev pub below_fault : Layer → ℕ → ℕ → Option Fault
below_fault part n t = cond (nat_lt t n) None (Some (position_fault part t))
