-- Lookups: what a round is to its session, in the words of runs.
use Rattle.std.specs.Prelude.{ℕ, List, [], ◌∷◌, length, Ok, Err, Option, Result}
use Rattle.faults.specs.declared.Fault.{Fault}
use Rattle.scheme.specs.Runs.{Call, request, recover, Event, asked, recovered}
use Rattle.session.specs.Calls.{refusal}
use Rattle.rounds.specs.Lent.{Contents}
use Rattle.rounds.specs.Rounds.{Round}
use Rattle.rounds.specs.declared.rows.Reading.{Reading}

-- the request of a round, and what the session alone would refuse of it
abbrev pub request_of : Round → Call
request_of r = request r.family r.position (length r.rows.first_query) (length r.rows.second_query)

abbrev pub request_refusal : Round → Option Fault
request_refusal r = refusal r.session r.family r.position (length r.rows.first_query) (length r.rows.second_query)

-- the two calls of a round that was played, where its rows hold that
abbrev pub both_calls : Round → Contents → List Call
both_calls r rows = request_of r ∷ recover r.family rows.first_sheet rows.second_sheet ∷ []

-- the entry of a reading, or the fault
abbrev pub entry_of : Result Reading Fault → Result ℕ Fault
entry_of (Ok reading) = Ok reading.entry
entry_of (Err fault) = Err fault

-- and what they showed, where the round gave that
abbrev pub both_shown : Contents → Result Reading Fault → List Event
both_shown rows result = asked rows.first_query rows.second_query ∷ recovered (entry_of result) ∷ []
