-- Counters: what a session's numbers say of the run that led to it.
use Rattle.std.specs.Prelude.{◌≡◌, ℕ, ◌+◌, ◌*◌, ◌≤◌, List, [], ◌∷◌, length, Ok, Err}
use Rattle.family.specs.Vectors.{Vectors}
use Rattle.scheme.specs.Sessions.{opened}
use Rattle.scheme.specs.Runs.{State, ready, waiting, session_of, Call, Event, asked, declined, recovered, abandoned, Run}

-- 1 while a lookup waits, else 0
abbrev pub waiting_now : State → ℕ
waiting_now (ready s) = 0
waiting_now (waiting s t turn) = 1

-- 1 for a request that was taken, else 0
abbrev pub is_taken : Event → ℕ
is_taken (asked p q) = 1
is_taken (declined fault) = 0
is_taken (recovered result) = 0
is_taken abandoned = 0

-- 1 for a lookup that was read, else 0
abbrev pub is_read : Event → ℕ
is_read (asked p q) = 0
is_read (declined fault) = 0
is_read (recovered (Ok e)) = 1
is_read (recovered (Err fault)) = 0
is_read abandoned = 0

-- 1 for a lookup that ended unread, abandoned or refused by its recovery, else 0
abbrev pub is_unread : Event → ℕ
is_unread (asked p q) = 0
is_unread (declined fault) = 0
is_unread (recovered (Ok e)) = 0
is_unread (recovered (Err fault)) = 1
is_unread abandoned = 1

-- how many events of a run are of a kind
abbrev pub tally : (Event → ℕ) → List Event → ℕ
tally kind [] = 0
tally kind (e ∷ es) = kind e + tally kind es

-- what a session holds at a run's end, told from what it was opened on and from the run's events
pub record Counted (f : Vectors) (tape : List ℕ) (events : List Event) (end : State) : Type 0 where
  -- what a session was opened on stays
  pub count_is : (session_of end).count ≡ f.count
  pub dim_is : (session_of end).dim ≡ f.dim
  pub tape_is : (session_of end).tape ≡ tape
  pub taken_are : (session_of end).taken ≡ tally is_taken events
  pub read_are : (session_of end).read ≡ tally is_read events
  pub unread_are : (session_of end).unread ≡ tally is_unread events
  -- taken is read plus unread, plus one while waiting
  pub adds_up : (session_of end).taken ≡ (session_of end).read + (session_of end).unread + waiting_now end
  -- each taken request used as many tape digits as a query has
  pub place_is : (session_of end).place ≡ (session_of end).taken * f.dim
  pub place_within : (session_of end).place ≤ length tape

-- of every run of a session that was opened on any family
abbrev pub RunCounters : Type 0
RunCounters =
    (f : Vectors) (tape : List ℕ) (calls : List Call) (events : List Event) (end : State) → Run (ready (opened f tape)) calls events end →
    Counted f tape events end
