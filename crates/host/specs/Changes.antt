-- Changes: what a list of them tells, which table that is, and what setting one refuses and does.
use Rattle.std.specs.Prelude.{◌≡◌, ◌≢◌, ◌↔◌, ℕ, ◌+◌, ◌<◌, Bool, cond, ◌||◌, List, length, map, Some, None, Option, ◌==◌, nat_lt, is_some, option_map, unwrap_or}
use Rattle.std.specs.List.{find, position, All, AllPairs, Contains}
use Rattle.faults.specs.declared.Fault.{Fault}
use Rattle.faults.specs.declared.Layer.TheVariants.{Host as HostLayer}
use Rattle.faults.specs.Faults.{full_fault}
use Rattle.digits.specs.Refusals.{or_else, below_fault, lone_fault}
use Rattle.host.specs.declared.change.Change.{Change}
use Rattle.host.specs.Holdings.{Holding}

-- whether a change is one of this position
abbrev pub stands_at : ℕ → Change → Bool
stands_at p c = c.position == p

-- the digit that a list of changes has at a position, if it has one
abbrev pub digit_told : List Change → ℕ → Option ℕ
digit_told changes p = option_map (λ c. c.digit) (find (stands_at p) changes)

-- and the place in the list where it stands
abbrev pub place_of : List Change → ℕ → Option ℕ
place_of changes p = position (stands_at p) changes

-- the positions of changes, in the list's order
abbrev pub positions : List Change → List ℕ
positions changes = map (λ c. c.position) changes

-- changes of different positions, each below the count, whose digits are digits
abbrev pub Distinct : List Change → Type 0
Distinct changes = AllPairs (λ p q. p ≢ q) (positions changes)

abbrev pub Below : ℕ → List Change → Type 0
Below n changes = All (λ p. p < n) (positions changes)

abbrev pub Small : List Change → Type 0
Small changes = All (λ c. c.digit < 6) changes

-- What is told is the digit held at a position, or none; the table has that digit, and 0 where none is held.
abbrev pub table_of : (ℕ → Option ℕ) → ℕ → ℕ
table_of tells p = unwrap_or (tells p) 0

abbrev pub change_holding : ℕ → (ℕ → Option ℕ) → Holding
change_holding n tells = record { count = n; table = table_of tells }

-- what is amiss with a new change where so many are held and this is told at its position: 64 are, and none stands there
abbrev pub room_fault : ℕ → Option ℕ → Option Fault
room_fault held before = cond (is_some before || nat_lt held 64) None (Some full_fault)

-- what setting a change refuses, in this order: a position not below the count n, a digit above 5, want of room
abbrev pub set_fault : ℕ → ℕ → Option ℕ → ℕ → ℕ → Option Fault
set_fault n held before position digit =
    or_else (below_fault HostLayer n position) (or_else (lone_fault digit) (room_fault held before))

-- what is told once a change is set: its digit at its position, and elsewhere what was told before
abbrev pub told_after : (ℕ → Option ℕ) → ℕ → ℕ → ℕ → Option ℕ
told_after before position digit p = cond (p == position) (Some digit) (before p)

-- how many are held then: one more where none was held at the position
abbrev pub held_after : ℕ → Option ℕ → ℕ
held_after held before = cond (is_some before) held (held + 1)

-- A listing of the changes held: as many as are held, no position twice, and a change stands in it exactly where it is told.
-- So each held change stands there once and nothing else does. Every position is below the count n, and every digit is one.
-- THE ORDER IS LEFT OPEN: of all that a listing is, this alone is not promised.
pub record Lists (n : ℕ) (tells : ℕ → Option ℕ) (held : ℕ) (listed : List Change) : Type 0 where
  pub number : length listed ≡ held
  pub once : Distinct listed
  pub each : (p d : ℕ) → Contains listed (record { position = p; digit = d }) ↔ (tells p ≡ Some d)
  pub below : Below n listed
  pub small : Small listed
