-- First: what a session's first lookup is handed, what it refuses, and what it leaves and gives.
use Rattle.std.specs.Prelude.{ℕ, List, length, replicate, Some, None, Option, Result}
use Rattle.faults.specs.declared.Fault.{Fault}
use Rattle.digits.specs.Refusals.{or_else}
use Rattle.family.specs.Vectors.{Vectors}
use Rattle.scheme.specs.Answers.{sheet_of}
use Rattle.scheme.specs.Queries.{second_query, shift}
use Rattle.scheme.specs.Sessions.{opened, next_digits, opening_fault, outcome}
use Rattle.host.specs.Holdings.{Holding, answer_fault}
use Rattle.session.specs.Calls.{refusal}

-- what its four rows hold: each host's query, and the sheet that it answers into
pub record FourRows : Type 0 where
  pub first : List ℕ
  pub second : List ℕ
  pub one : List ℕ
  pub two : List ℕ

-- what it is handed, each host by what it holds
pub record Handed : Type 0 where
  pub family : Vectors
  pub first_host : Holding
  pub second_host : Holding
  pub tape : List ℕ
  pub position : ℕ
  pub rows : FourRows

abbrev pub four_rows : List ℕ → List ℕ → List ℕ → List ℕ → FourRows
four_rows first second one two = record { first = first; second = second; one = one; two = two }

abbrev pub first_handed : Vectors → Holding → Holding → List ℕ → ℕ → FourRows → Handed
first_handed f a b tape t rows = record { family = f; first_host = a; second_host = b; tape = tape; position = t; rows = rows }

-- its two queries
abbrev pub first_asked : Handed → List ℕ
first_asked h = next_digits (opened h.family h.tape)

abbrev pub second_asked : Handed → List ℕ
second_asked h = second_query h.family h.position (first_asked h)

-- a row once it is zeroed
abbrev pub blank : List ℕ → List ℕ
blank xs = replicate (length xs) 0

-- what a host refuses that is asked a query into a zeroed sheet, and what the sheet then holds
abbrev pub host_fault : Vectors → Holding → List ℕ → List ℕ → Option Fault
host_fault f host p sheet = answer_fault host.count f p (blank sheet)

-- what was written where nothing is refused, else what stood before
abbrev pub unless_refused : Option Fault → List ℕ → List ℕ → List ℕ
unless_refused None xs kept = xs
unless_refused (Some fault) xs kept = kept

abbrev pub asked_sheet : Vectors → Holding → List ℕ → List ℕ → List ℕ
asked_sheet f host p sheet = unless_refused (host_fault f host p sheet) (sheet_of f host.table p) (blank sheet)

-- the same of both hosts, of which the second is asked where the first refuses nothing
abbrev pub both_fault : Vectors → Holding → Holding → FourRows → Option Fault
both_fault f a b rows = or_else (host_fault f a rows.first rows.one) (host_fault f b rows.second rows.two)

abbrev pub both_asked : Vectors → Holding → Holding → FourRows → FourRows
both_asked f a b rows =
    four_rows rows.first rows.second (asked_sheet f a rows.first rows.one)
    (unless_refused (host_fault f a rows.first rows.one) (asked_sheet f b rows.second rows.two) rows.two)

-- what is refused before a query is written: by the opening, then by the request
abbrev pub early_fault : Handed → Option Fault
early_fault h =
    or_else (opening_fault h.tape) (refusal (opened h.family h.tape) h.family h.position (length h.rows.first) (length h.rows.second))

-- the rows with the queries written
abbrev pub with_queries : Handed → FourRows
with_queries h = four_rows (first_asked h) (second_asked h) h.rows.one h.rows.two

-- the first refusal of all: then by the first host, and by the second
abbrev pub first_fault : Handed → Option Fault
first_fault h = or_else (early_fault h) (both_fault h.family h.first_host h.second_host (with_queries h))

-- what the rows hold in the end: refused before a query was written, what they held; else the queries, and what the hosts leave
abbrev pub left_by : Option Fault → Handed → FourRows
left_by None h = both_asked h.family h.first_host h.second_host (with_queries h)
left_by (Some fault) h = h.rows

abbrev pub first_left : Handed → FourRows
first_left h = left_by (early_fault h) h

-- what the recovery reads from the sheets of the two hosts
abbrev pub first_reading : Handed → Result ℕ Fault
first_reading h =
    outcome h.family.count h.family.dim h.family h.position (shift h.family h.position (first_asked h))
    (sheet_of h.family h.first_host.table (first_asked h)) (sheet_of h.family h.second_host.table (second_asked h))
