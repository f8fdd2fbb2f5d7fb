-- What a session's numbers say of the run that led to it: each call moves them by what its event shows.
use Rattle.std.proofs.Common.{◌≡◌, ℕ, ◌+◌, ◌*◌, ◌≤◌, List, length, Ok, Err, Result, ap, subst, ◌∙◌, arith, rules}
use Rattle.faults.specs.declared.Fault.{Fault}
use Rattle.scheme.specs.Sessions.{Session, digits_left, outcome, after_loss, after_recovery}
use Rattle.scheme.specs.Runs.{State, ready, waiting, session_of, Call, Event, recovered, Step, takes, declines, recovers, abandons, Run, none, more}
use Rattle.scheme.specs.Counters.{waiting_now, is_taken, is_read, is_unread, tally, RunCounters}
use Rattle.scheme.proofs.Taken.{taken}

-- From one state to another so many requests were taken, so many lookups read, and so many ended unread. Each lookup that
-- waited at the start, or was taken since, was read, ended unread, or still waits.
record Moved (s : State) (took read lost : ℕ) (t : State) : Type 0 where
  count_stays : (session_of t).count ≡ (session_of s).count
  dim_stays : (session_of t).dim ≡ (session_of s).dim
  tape_stays : (session_of t).tape ≡ (session_of s).tape
  more_taken : (session_of t).taken ≡ (session_of s).taken + took
  more_read : (session_of t).read ≡ (session_of s).read + read
  more_unread : (session_of t).unread ≡ (session_of s).unread + lost
  place_moves : (session_of t).place ≡ (session_of s).place + took * (session_of s).dim
  stays_within : (session_of s).place ≤ length (session_of s).tape → (session_of t).place ≤ length (session_of t).tape
  none_lost : waiting_now s + took ≡ read + lost + waiting_now t

-- what neither an empty run nor a request that is declined changes
no_move : (s : State) → Moved s 0 0 0 s
no_move s = search rules

-- a lookup that ends unread
loses : (s : Session) (t turn : ℕ) → Moved (waiting s t turn) 0 0 1 (ready (after_loss s))
loses s t turn = search rules

-- a recovery, by its outcome
read_or_lost : (result : Result ℕ Fault) (s : Session) (t turn : ℕ) →
    Moved (waiting s t turn) 0 (is_read (recovered result)) (is_unread (recovered result)) (ready (after_recovery result s))
read_or_lost (Ok e) s t turn = search rules
read_or_lost (Err fault) s t turn = loses s t turn

one_call : {s t : State} {c : Call} {e : Event} → Step s c e t → Moved s (is_taken e) (is_read e) (is_unread e) t
one_call (takes s f t l m h) =
    let room : s.dim ≤ digits_left s = (taken s.count s.dim (digits_left s) f t l m h).room in
    search rules
one_call (declines s f t l m fault h) = no_move (ready s)
one_call (recovers s t turn f one two) = read_or_lost (outcome s.count s.dim f t turn one two) s t turn
one_call (abandons s t turn) = loses s t turn

-- one move and then another
and_then : {s t r : State} {a b c x y z : ℕ} → Moved s a b c t → Moved t x y z r → Moved s (a + x) (b + y) (c + z) r
and_then {x = x} m n =
    let dims = ap (λ k. x * k) m.dim_stays in
    record {
      count_stays = n.count_stays ∙ m.count_stays;
      dim_stays = n.dim_stays ∙ m.dim_stays;
      tape_stays = n.tape_stays ∙ m.tape_stays;
      more_taken = omega arith;
      more_read = omega arith;
      more_unread = omega arith;
      place_moves = omega arith;
      stays_within = λ h. n.stays_within (m.stays_within h);
      none_lost = omega arith;
    }

all_calls : {s end : State} {calls : List Call} {events : List Event} → Run s calls events end →
    Moved s (tally is_taken events) (tally is_read events) (tally is_unread events) end
all_calls {s = s} none = no_move s
all_calls (more step run) = and_then (one_call step) (all_calls run)

pub counting : RunCounters
counting f tape calls events end run =
    let moved = all_calls run in
    let times_dim = ap (λ n. n * f.dim) moved.more_taken in
    record {
      count_is = moved.count_stays;
      dim_is = moved.dim_stays;
      tape_is = moved.tape_stays;
      taken_are = omega arith;
      read_are = omega arith;
      unread_are = omega arith;
      adds_up = omega arith;
      place_is = omega arith;
      place_within = subst (λ xs. (session_of end).place ≤ length xs) moved.tape_stays (moved.stays_within (omega arith));
    }
