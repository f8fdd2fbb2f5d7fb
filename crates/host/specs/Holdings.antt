-- Holdings: what a host means, and what it refuses.
use Rattle.std.specs.Prelude.{◌≡◌, ℕ, ◌<◌, ◌≤◌, List, Option}
use Rattle.faults.specs.declared.Fault.{Fault}
use Rattle.faults.specs.declared.Layer.TheVariants.{Host as HostLayer}
use Rattle.digits.specs.Refusals.{or_else, equal_fault, long_fault, digits_fault}
use Rattle.family.specs.Vectors.{Vectors}
use Rattle.scheme.specs.Answers.{sheet_size}

-- A host means a count n and a table of n entries. (The usual word for the table is the database.)
pub record Holding : Type 0 where
  pub count : ℕ
  pub table : ℕ → ℕ

-- a holding within the limits of a count, with a digit at each position, and 0 beyond the last
pub record WellHeld (h : Holding) : Type 0 where
  pub some : 1 ≤ h.count
  pub few : h.count ≤ 1048576
  pub digits : (i : ℕ) → h.table i < 6
  pub past : (i : ℕ) → h.count ≤ i → h.table i ≡ 0

-- what a host of count n refuses of a family, a query and a sheet: another count; the query's length, then the sheet's; the
-- first byte above 5 in the query, then in the sheet
abbrev pub answer_fault : ℕ → Vectors → List ℕ → List ℕ → Option Fault
answer_fault n f query sheet =
    or_else (equal_fault HostLayer n f.count)
    (or_else (long_fault f.dim query)
    (or_else (long_fault (sheet_size f.dim) sheet)
    (or_else (digits_fault query) (digits_fault sheet))))
