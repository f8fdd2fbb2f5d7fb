-- A session is opened on every tape of digits, and each call in turn has one step: by the tests that a request meets, and since nothing else is left open.
use Rattle.std.proofs.Common.{◌≡◌, ℕ, List, None, Some, Ok, Option, refl, sym, ap, ◌∙◌}
use Rattle.faults.specs.declared.Fault.{Fault}
use Rattle.digits.proofs.DigitRows.{digits_pass, digits_from}
use Rattle.family.specs.Vectors.{Vectors}
use Rattle.scheme.specs.Queries.{second_query, shift}
use Rattle.scheme.specs.Sessions.{Session, digits_left, next_digits, request_fault, outcome, after_request, after_recovery, after_loss}
use Rattle.scheme.specs.Runs.{State, ready, waiting, Call, request, recover, abandon, Event, asked, declined, recovered, abandoned, Step, takes, declines, recovers, abandons}
use Rattle.scheme.specs.Steps.{InTurn, Readable, OneStep}
use Rattle.scheme.proofs.Fitting.{takes_all, takes_no_other, reads_all, readable_from}

-- a request is taken, or declined with a fault
request_step : (s : Session) (f : Vectors) (t l m : ℕ) (met : Option Fault) → request_fault s.count s.dim (digits_left s) f t l m ≡ met →
    (e : Event) × (n : State) × Step (ready s) (request f t l m) e n
request_step s f t l m None h = (_, _, takes s f t l m h)
request_step s f t l m (Some fault) h = (_, _, declines s f t l m fault h)

some_step : (s : State) (c : Call) → InTurn s c → (e : Event) × (t : State) × Step s c e t
some_step (ready s) (request f t l m) h = request_step s f t l m _ refl
some_step (ready s) (recover f one two) h = absurd h
some_step (ready s) abandon h = absurd h
some_step (waiting s t turn) (request f o l m) h = absurd h
some_step (waiting s t turn) (recover f one two) h = (_, _, recovers s t turn f one two)
some_step (waiting s t turn) abandon h = (_, _, abandons s t turn)

no_other : {s t : State} {c : Call} {e : Event} → Step s c e t → InTurn s c
no_other (takes s f t l m h) = tt
no_other (declines s f t l m fault h) = tt
no_other (recovers s t turn f one two) = tt
no_other (abandons s t turn) = tt

-- what a request shows, and where it leads, by the fault that it meets
abbrev shows : Session → Vectors → ℕ → Option Fault → Event
shows s f t None = asked (next_digits s) (second_query f t (next_digits s))
shows s f t (Some fault) = declined fault

abbrev leads : Session → Vectors → ℕ → Option Fault → State
leads s f t None = waiting (after_request s) t (shift f t (next_digits s))
leads s f t (Some fault) = ready s

told : (s : Session) (f : Vectors) (t : ℕ) (one two : Option Fault) → one ≡ two → (shows s f t one ≡ shows s f t two) × (leads s f t one ≡ leads s f t two)
told s f t one two e = (ap (shows s f t) e, ap (leads s f t) e)

request_told : {s : Session} {f : Vectors} {t l m : ℕ} {g : Event} {r : State} → Step (ready s) (request f t l m) g r →
    (met : Option Fault) → request_fault s.count s.dim (digits_left s) f t l m ≡ met → (shows s f t met ≡ g) × (leads s f t met ≡ r)
request_told (takes s f t l m h) met k = told s f t met None (sym k ∙ h)
request_told (declines s f t l m fault h) met k = told s f t met (Some fault) (sym k ∙ h)

recovery_told : {s : Session} {t turn : ℕ} {f : Vectors} {one two : List ℕ} {g : Event} {r : State} → Step (waiting s t turn) (recover f one two) g r →
    (recovered (outcome s.count s.dim f t turn one two) ≡ g) × (ready (after_recovery (outcome s.count s.dim f t turn one two) s) ≡ r)
recovery_told (recovers s t turn f one two) = (refl, refl)

abandonment_told : {s : Session} {t turn : ℕ} {g : Event} {r : State} → Step (waiting s t turn) abandon g r → (abandoned ≡ g) × (ready (after_loss s) ≡ r)
abandonment_told (abandons s t turn) = (refl, refl)

same_step : {s t r : State} {c : Call} {e g : Event} → Step s c e t → Step s c g r → (e ≡ g) × (t ≡ r)
same_step (takes s f t l m h) other = request_told other None h
same_step (declines s f t l m fault h) other = request_told other (Some fault) h
same_step (recovers s t turn f one two) other = recovery_told other
same_step (abandons s t turn) other = abandonment_told other

reads_no_other : {s : Session} {f : Vectors} {t turn : ℕ} {one two : List ℕ} {e : ℕ} {n : State} →
    Step (waiting s t turn) (recover f one two) (recovered (Ok e)) n → Readable s f t turn one two e
reads_no_other {s = s} {f = f} {t = t} {turn = turn} {one = one} {two = two} {e = e} step = readable_from s f t turn one two e (cc (recovery_told step).0)

pub stepping : OneStep
stepping = record {
  opens = digits_from;
  opens_all = digits_pass;
  some_step = some_step;
  same_step = same_step;
  no_other = no_other;
  takes_all = takes_all;
  takes_no_other = takes_no_other;
  reads_all = reads_all;
  reads_no_other = reads_no_other;
}
