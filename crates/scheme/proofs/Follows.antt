-- A request that was taken and the recovery after it, in a run: what they say of the session between them.
use Rattle.std.proofs.Common.{◌≡◌, ℕ, List, Ok, Err, None, Result, refl, ◌∙◌}
use Rattle.faults.specs.declared.Fault.{Fault}
use Rattle.family.specs.Vectors.{Vectors}
use Rattle.scheme.specs.Queries.{second_query, shift}
use Rattle.scheme.specs.Sessions.{Session, digits_left, next_digits, request_fault, outcome, after_recovery}
use Rattle.scheme.specs.Runs.{State, session_of, Call, request, recover, Event, asked, recovered, Step, takes, declines, recovers, abandons, Run, none, more}
use Rattle.scheme.specs.Law.{Follow, here, later}

recovery_keeps : (result : Result ℕ Fault) (s : Session) → (after_recovery result s).tape ≡ s.tape
recovery_keeps (Ok e) s = refl
recovery_keeps (Err fault) s = refl

-- no call changes the tape
step_keeps : {s n : State} {c : Call} {e : Event} → Step s c e n → (session_of n).tape ≡ (session_of s).tape
step_keeps (takes s f t l m fit) = refl
step_keeps (declines s f t l m fault amiss) = refl
step_keeps (recovers s t turn f one two) = recovery_keeps (outcome s.count s.dim f t turn one two) s
step_keeps (abandons s t turn) = refl

-- a lookup, from the session that its request found; both calls were handed the family g
pub record Lookup (tape : List ℕ) (g : Vectors) (t l m : ℕ) (p q one two : List ℕ) (shown : Event) : Type 0 where
  pub session : Session
  pub tape_is : session.tape ≡ tape
  pub taken : request_fault session.count session.dim (digits_left session) g t l m ≡ None
  pub first_is : p ≡ next_digits session
  pub second_is : q ≡ second_query g t p
  pub shown_is : shown ≡ recovered (outcome session.count session.dim g t (shift g t p) one two)

both_steps : {tape : List ℕ} {g : Vectors} {t l m : ℕ} {p q one two : List ℕ} {shown : Event} {before between after : State} →
    (session_of before).tape ≡ tape → Step before (request g t l m) (asked p q) between → Step between (recover g one two) shown after →
    Lookup tape g t l m p q one two shown
both_steps is (takes s f t l m fit) (recovers r o turn g x y) =
    record { session = s; tape_is = is; taken = fit; first_is = refl; second_is = refl; shown_is = refl }

pub lookup_in : {tape : List ℕ} {g : Vectors} {t l m : ℕ} {p q one two : List ℕ} {shown : Event}
    {calls : List Call} {events : List Event} {start end : State} → (session_of start).tape ≡ tape → Run start calls events end →
    Follow calls events (request g t l m) (asked p q) (recover g one two) shown → Lookup tape g t l m p q one two shown
lookup_in is none follow = elim follow [ ]
lookup_in is (more first (more second run)) here = both_steps is first second
lookup_in is (more step run) (later follow) = lookup_in (step_keeps step ∙ is) run follow
