-- Sessions: what opening, a request, a recovery and an abandonment do, and what they refuse.
use Rattle.std.specs.Prelude.{ℕ, ◌+◌, ◌-◌, cond, List, length, take, drop, Some, None, Ok, Err, Option, Result, nat_le}
use Rattle.faults.specs.declared.Fault.{Fault}
use Rattle.faults.specs.declared.Layer.TheVariants.{Session as SessionLayer}
use Rattle.faults.specs.Faults.{spent_fault, at_odds_fault}
use Rattle.digits.specs.Refusals.{or_else, digits_fault, long_fault, width_fault, equal_fault, below_fault}
use Rattle.family.specs.Vectors.{Vectors}
use Rattle.scheme.specs.Answers.{sheet_size}
use Rattle.scheme.specs.Recovery.{found, read_entry}

-- What a session keeps: its family's count and dimension, its tape (the client's randomness), the place up to which the
-- tape is used, and how many requests it took, how many lookups were read, and how many ended unread.
pub record Session : Type 0 where
  pub count : ℕ
  pub dim : ℕ
  pub tape : List ℕ
  pub place : ℕ
  pub taken : ℕ
  pub read : ℕ
  pub unread : ℕ

-- opening refuses a tape that holds a byte above 5
abbrev pub opening_fault : List ℕ → Option Fault
opening_fault tape = digits_fault tape

-- a session as it is opened
abbrev pub opened : Vectors → List ℕ → Session
opened f tape = record { count = f.count; dim = f.dim; tape = tape; place = 0; taken = 0; read = 0; unread = 0 }

-- how many tape digits are left, and the next of them, as many as a query has
abbrev pub digits_left : Session → ℕ
digits_left s = length s.tape - s.place

abbrev pub next_digits : Session → List ℕ
next_digits s = take s.dim (drop s.place s.tape)

-- what is amiss with a tape of which so many digits are left, where k are needed
abbrev pub tape_fault : ℕ → ℕ → Option Fault
tape_fault k left = cond (nat_le k left) None (Some (spent_fault left))

-- what is amiss with the family f that a call on a session of count n and dimension k is handed: count, then dimension
abbrev pub family_fault : ℕ → ℕ → Vectors → Option Fault
family_fault n k f = or_else (equal_fault SessionLayer n f.count) (equal_fault SessionLayer k f.dim)

-- what is amiss with a request for position t, for queries into rows of l and m bytes, where so many digits are left
abbrev pub request_fault : ℕ → ℕ → ℕ → Vectors → ℕ → ℕ → ℕ → Option Fault
request_fault n k left f t l m =
    or_else (family_fault n k f)
    (or_else (width_fault k l)
    (or_else (width_fault k m)
    (or_else (below_fault SessionLayer n t) (tape_fault k left))))

-- what is amiss with two sheets that a recovery is handed: lengths first, then digits, the first sheet's before the second's
abbrev pub sheets_fault : ℕ → List ℕ → List ℕ → Option Fault
sheets_fault k one two =
    or_else (long_fault (sheet_size k) one)
    (or_else (long_fault (sheet_size k) two)
    (or_else (digits_fault one) (digits_fault two)))

-- an entry that was read for position t, or the fault that the sheets are at odds
abbrev pub read_or_odds : ℕ → Option ℕ → Result ℕ Fault
read_or_odds t (Some e) = Ok e
read_or_odds t None = Err (at_odds_fault t)

-- what a recovery gives where nothing is amiss, or the fault
abbrev pub unless : Option Fault → Result ℕ Fault → Result ℕ Fault
unless None result = result
unless (Some fault) result = Err fault

-- the entry that a recovery reads from two sheets for position t and shift turn, or what it refuses
unfoldable pub outcome : ℕ → ℕ → Vectors → ℕ → ℕ → List ℕ → List ℕ → Result ℕ Fault
outcome n k f t turn one two =
    unless (or_else (family_fault n k f) (sheets_fault k one two)) (read_or_odds t (read_entry (found f t turn one two)))

-- the session after a request that was taken: its place is k further
abbrev pub after_request : Session → Session
after_request s =
    record { count = s.count; dim = s.dim; tape = s.tape; place = s.place + s.dim; taken = s.taken + 1; read = s.read; unread = s.unread }

-- after a lookup that was read
abbrev pub after_reading : Session → Session
after_reading s =
    record { count = s.count; dim = s.dim; tape = s.tape; place = s.place; taken = s.taken; read = s.read + 1; unread = s.unread }

-- after one that ended unread: it was abandoned, or its recovery was refused
abbrev pub after_loss : Session → Session
after_loss s =
    record { count = s.count; dim = s.dim; tape = s.tape; place = s.place; taken = s.taken; read = s.read; unread = s.unread + 1 }

-- after a recovery with that outcome
abbrev pub after_recovery : Result ℕ Fault → Session → Session
after_recovery (Ok e) s = after_reading s
after_recovery (Err fault) s = after_loss s
