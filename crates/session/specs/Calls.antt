-- Calls: what the calls of the code refuse, show and lead to, in the words of runs.
use Rattle.std.specs.Prelude.{ℕ, List, Ok, Err, Option, Result}
use Rattle.faults.specs.declared.Fault.{Fault}
use Rattle.family.specs.Vectors.{Vectors}
use Rattle.scheme.specs.Sessions.{Session, digits_left, request_fault, outcome}
use Rattle.scheme.specs.Runs.{State, Event, asked, declined}
use Rattle.session.specs.declared.states.Refused.{Refused}
use Rattle.session.specs.declared.states.Waiting.{Waiting}
use Rattle.session.specs.States.{waiting_session, position_of, shift_of, ready_state, waiting_state}

-- what a session refuses of a request with the family f for position t, for queries into rows of l and m bytes
abbrev pub refusal : Session → Vectors → ℕ → ℕ → ℕ → Option Fault
refusal s f t l m = request_fault s.count s.dim (digits_left s) f t l m

-- the entry that a session that waits reads from two sheets with the family f, or what it refuses
abbrev pub read_by : Waiting → Vectors → List ℕ → List ℕ → Result ℕ Fault
read_by w f one two = outcome (waiting_session w).count (waiting_session w).dim f (position_of w) (shift_of w) one two

-- what a request showed, told from its result and from what the two rows then hold
abbrev pub request_shown : Result Waiting Refused → List ℕ → List ℕ → Event
request_shown (Ok w) p q = asked p q
request_shown (Err r) p q = declined r.fault

-- and where it led
abbrev pub request_leads : Result Waiting Refused → State
request_leads (Ok w) = waiting_state w
request_leads (Err r) = ready_state r.session
