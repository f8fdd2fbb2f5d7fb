-- Rounds: what a whole round refuses, and what it writes and gives where it is played.
use Rattle.std.specs.Prelude.{ℕ, ◌+◌, length, Ok, Err, Option, Result}
use Rattle.faults.specs.declared.Fault.{Fault}
use Rattle.faults.specs.declared.Layer.TheVariants.{Host as HostLayer, Session as SessionLayer}
use Rattle.digits.specs.Refusals.{or_else, long_fault, equal_fault, below_fault}
use Rattle.family.specs.Vectors.{Vectors}
use Rattle.scheme.specs.Answers.{sheet_size, sheet_of}
use Rattle.scheme.specs.Queries.{second_query, shift}
use Rattle.scheme.specs.Sessions.{Session, digits_left, next_digits, family_fault, tape_fault, outcome}
use Rattle.host.specs.Holdings.{Holding}
use Rattle.session.specs.declared.states.Ready.{Ready}
use Rattle.session.specs.States.{ready_session}
use Rattle.rounds.specs.Lent.{Contents, before}
use Rattle.rounds.specs.declared.rows.Reading.{Reading}
use Rattle.rounds.specs.declared.rows.Rows.{Rows}

-- what a round is handed, as promises see it: each host by what it holds, and rows by what is in them
pub record Round : Type 0 where
  pub session : Session
  pub family : Vectors
  pub first_host : Holding
  pub second_host : Holding
  pub position : ℕ
  pub rows : Contents

abbrev pub handed : Ready → Vectors → Holding → Holding → ℕ → Rows → Round
handed session f one two t rows = record {
  session = ready_session session;
  family = f;
  first_host = one;
  second_host = two;
  position = t;
  rows = before rows;
}

-- what is amiss with the counts of two hosts where the family's is n: the first host's, then the second's
abbrev pub hosts_fault : ℕ → ℕ → ℕ → Option Fault
hosts_fault n one two = or_else (equal_fault HostLayer n one) (equal_fault HostLayer n two)

-- what is amiss with the lengths of a round's rows where a query has k digits: the queries', then the sheets'
abbrev pub rows_fault : ℕ → Contents → Option Fault
rows_fault k rows =
    or_else (long_fault k rows.first_query)
    (or_else (long_fault k rows.second_query)
    (or_else (long_fault (sheet_size k) rows.first_sheet) (long_fault (sheet_size k) rows.second_sheet)))

-- What a round refuses before it takes a tape digit or writes a byte: the family's count, then its dimension; the hosts' counts; the
-- rows' lengths; the position; too few tape digits.
abbrev pub round_fault : Round → Option Fault
round_fault r =
    or_else (family_fault r.session.count r.session.dim r.family)
    (or_else (hosts_fault r.family.count r.first_host.count r.second_host.count)
    (or_else (rows_fault r.session.dim r.rows)
    (or_else (below_fault SessionLayer r.session.count r.position) (tape_fault r.session.dim (digits_left r.session)))))

-- what the rows hold once a round was played: the two queries of the position with the next tape digits, and what each host answers
-- to its query on a sheet of zeros
abbrev pub played : Round → Contents
played r =
    let first = next_digits r.session in
    let second = second_query r.family r.position first in
    record {
      first_query = first;
      second_query = second;
      first_sheet = sheet_of r.family r.first_host.table first;
      second_sheet = sheet_of r.family r.second_host.table second;
    }

-- what its recovery reads from such rows: the entry, or the fault that the sheets are at odds
abbrev pub read_from : Round → Contents → Result ℕ Fault
read_from r rows =
    outcome r.session.count r.session.dim r.family r.position (shift r.family r.position rows.first_query)
    rows.first_sheet rows.second_sheet

-- how many digits a round carries, counted from its rows: the queries go to the hosts, and the sheets come back
abbrev pub carried : Contents → ℕ
carried rows = length rows.first_query + length rows.second_query + length rows.first_sheet + length rows.second_sheet

-- what a round gives: an entry with the digits carried, or the fault
abbrev pub with_carried : ℕ → Result ℕ Fault → Result Reading Fault
with_carried n (Ok e) = Ok (record { entry = e; carried = n })
with_carried n (Err fault) = Err fault
