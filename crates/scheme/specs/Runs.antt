-- Runs: lists of calls on one session, each starting where the last ended, with what each showed.
use Rattle.std.specs.Prelude.{◌≡◌, ℕ, List, [], ◌∷◌, Some, None, Result}
use Rattle.faults.specs.declared.Fault.{Fault}
use Rattle.family.specs.Vectors.{Vectors}
use Rattle.scheme.specs.Queries.{second_query, shift}
use Rattle.scheme.specs.Sessions.{Session, digits_left, next_digits, request_fault, outcome, after_request, after_recovery, after_loss}

-- a session is ready, or it waits for two sheets: then the lookup keeps its position, and its shift, by which W will be turned
pub data State : Type 0 where
  ready : Session → State
  waiting : Session → ℕ → ℕ → State

-- the session, whichever it is
abbrev pub session_of : State → Session
session_of (ready s) = s
session_of (waiting s t turn) = s

-- A request hands over a family, a position, and the lengths of the two rows that the queries are to be written into. A recovery
-- hands over a family and two sheets.
pub data Call : Type 0 where
  request : Vectors → ℕ → ℕ → ℕ → Call
  recover : Vectors → List ℕ → List ℕ → Call
  abandon : Call

-- what a call showed: a request two queries or its refusal, a recovery its outcome
pub data Event : Type 0 where
  asked : List ℕ → List ℕ → Event
  declined : Fault → Event
  recovered : Result ℕ Fault → Event
  abandoned : Event

-- What one call does. A session that is ready takes requests, one that waits a recovery or an abandonment; a call out of turn is
-- in no run, and in no program that is accepted.
pub data Step : State → Call → Event → State → Type 0 where
  takes : (s : Session) (f : Vectors) (t l m : ℕ) → request_fault s.count s.dim (digits_left s) f t l m ≡ None →
      Step (ready s) (request f t l m) (asked (next_digits s) (second_query f t (next_digits s)))
      (waiting (after_request s) t (shift f t (next_digits s)))
  declines : (s : Session) (f : Vectors) (t l m : ℕ) (fault : Fault) → request_fault s.count s.dim (digits_left s) f t l m ≡ Some fault →
      Step (ready s) (request f t l m) (declined fault) (ready s)
  recovers : (s : Session) (t turn : ℕ) (f : Vectors) (one two : List ℕ) →
      Step (waiting s t turn) (recover f one two) (recovered (outcome s.count s.dim f t turn one two))
      (ready (after_recovery (outcome s.count s.dim f t turn one two) s))
  abandons : (s : Session) (t turn : ℕ) → Step (waiting s t turn) abandon abandoned (ready (after_loss s))

-- calls one after the other, each starting where the last ended, with what each showed
pub data Run : State → List Call → List Event → State → Type 0 where
  none : {s : State} → Run s [] [] s
  more : {s t r : State} {c : Call} {e : Event} {cs : List Call} {es : List Event} → Step s c e t → Run t cs es r → Run s (c ∷ cs) (e ∷ es) r
