-- States: what a session of the code means, as the law of all runs has it.
use Rattle.std.specs.Prelude.{◌≡◌, ℕ, false, IsTrue}
use Rattle.scheme.specs.Sessions.{Session}
use Rattle.scheme.specs.Runs.{State, ready, waiting}
use Rattle.session.specs.declared.states.Counters.{Counters}
use Rattle.session.specs.declared.states.Kept.{Kept}
use Rattle.session.specs.declared.states.Ready.{Ready}
use Rattle.session.specs.declared.states.Waiting.{Waiting}

-- what a session keeps, as the session of the scheme that it is
abbrev pub kept_session : Kept → Session
kept_session k = record {
  count = k.count;
  dim = k.dimension;
  tape = k.tape.items;
  place = k.place;
  taken = k.taken;
  read = k.read;
  unread = k.unread;
}

-- the session that a ready one is, and the state that it means
abbrev pub ready_session : Ready → Session
ready_session r = kept_session r.kept

abbrev pub ready_state : Ready → State
ready_state r = ready (ready_session r)

-- the session of one that waits, the position that its lookup was requested for, and the shift
abbrev pub waiting_session : Waiting → Session
waiting_session w = kept_session w.kept

abbrev pub position_of : Waiting → ℕ
position_of w = w.lookup.position

abbrev pub shift_of : Waiting → ℕ
shift_of w = w.lookup.shift

abbrev pub waiting_state : Waiting → State
waiting_state w = waiting (waiting_session w) (position_of w) (shift_of w)

-- the numbers that a session tells
abbrev pub counters_of : Session → Counters
counters_of s = record { taken = s.taken; read = s.read; unread = s.unread }

-- The lookup was recovered or abandoned. Nothing that a session that waits is got from promises it, so no program can let go of one.
abbrev pub Spent : Waiting → Type 0
Spent w = IsTrue w.lookup.spent

-- The lookup was neither recovered nor abandoned yet. Every session that a request leaves waiting is got so.
abbrev pub Pending : Waiting → Type 0
Pending w = w.lookup.spent ≡ false
