-- The law of all runs: a lookup gives the table's entry, and no host learns the position.
use Rattle.std.specs.Prelude.{◌≡◌, ℕ, ◌*◌, ◌<◌, ◌⊎◌, List, [], ◌∷◌, length, drop, Some, None, Ok, Option}
use Rattle.faults.specs.declared.Fault.{Fault}
use Rattle.digits.specs.Rows.{Digits}
use Rattle.family.specs.Vectors.{Vectors, MatchingFamily}
use Rattle.scheme.specs.Answers.{zero_sheet, Table, HostOf}
use Rattle.scheme.specs.Sessions.{opened}
use Rattle.scheme.specs.Runs.{State, ready, Call, request, recover, abandon, Event, asked, declined, recovered, abandoned, Run}

-- in a run, call c showed e, and the call directly after it, d, showed g
pub data Follow : List Call → List Event → Call → Event → Call → Event → Type 0 where
  here : {c d : Call} {e g : Event} {cs : List Call} {es : List Event} → Follow (c ∷ d ∷ cs) (e ∷ g ∷ es) c e d g
  later : {b c d : Call} {h e g : Event} {cs : List Call} {es : List Event} → Follow cs es c e d g → Follow (b ∷ cs) (h ∷ es) c e d g

-- It recovers. In any run of a session opened on the family f: where a request for position t was taken, and the
-- recovery after it is handed what two hosts of one table answered to the two queries into zeroed sheets, in the
-- queries' order, the recovery gives that table's entry at t. The request, the recovery and the hosts are handed one family,
-- any that matches; other calls of the run may be handed others.
abbrev pub Recovers : Vectors → Type 0
Recovers f =
    (tape : List ℕ) → Digits tape → (calls : List Call) (events : List Event) (end : State) → Run (ready (opened f tape)) calls events end →
    (family : Vectors) → MatchingFamily family → (t l m : ℕ) (p q one two : List ℕ) (shown : Event) →
    Follow calls events (request family t l m) (asked p q) (recover family one two) shown →
    (a : ℕ → ℕ) → Table family a → (first_host second_host : List ℕ → List ℕ → List ℕ) → HostOf family a first_host → HostOf family a second_host →
    one ≡ first_host p (zero_sheet family) → two ≡ second_host q (zero_sheet family) →
    shown ≡ recovered (Ok (a t))

-- the host of the first queries, and that of the second
pub data Side : Type 0 where
  first : Side
  second : Side

-- which of two queries a host is shown
abbrev pub query_of : Side → List ℕ → List ℕ → List ℕ
query_of first p q = p
query_of second p q = q

-- the queries that one host is shown, in order
abbrev pub view : Side → List Event → List (List ℕ)
view w [] = []
view w (asked p q ∷ es) = query_of w p q ∷ view w es
view w (declined fault ∷ es) = view w es
view w (recovered result ∷ es) = view w es
view w (abandoned ∷ es) = view w es

-- the refusal, or none, that each request met, in order
abbrev pub refusals : List Event → List (Option Fault)
refusals [] = []
refusals (asked p q ∷ es) = None ∷ refusals es
refusals (declined fault ∷ es) = Some fault ∷ refusals es
refusals (recovered result ∷ es) = refusals es
refusals (abandoned ∷ es) = refusals es

-- Two lists of calls on a session of count n that differ only in which positions below n they name, and in what their
-- recoveries are handed.
pub data Alike (n : ℕ) : List Call → List Call → Type 0 where
  end : Alike n [] []
  requests : {f : Vectors} {t o l m : ℕ} {cs ds : List Call} → (t ≡ o) ⊎ ((t < n) × (o < n)) → Alike n cs ds →
      Alike n (request f t l m ∷ cs) (request f o l m ∷ ds)
  recoveries : {f h : Vectors} {w x y z : List ℕ} {cs ds : List Call} → Alike n cs ds → Alike n (recover f w x ∷ cs) (recover h y z ∷ ds)
  abandonments : {cs ds : List Call} → Alike n cs ds → Alike n (abandon ∷ cs) (abandon ∷ ds)

-- Another tape explains what host w was shown: it is a row of digits, has the tape's length and its unused digits, those past
-- k for each query that was shown, and the calls, run on a session opened on it, show this host the same queries.
pub record Explains (f : Vectors) (calls : List Call) (w : Side) (tape : List ℕ) (events : List Event) (other : List ℕ) : Type 0 where
  pub digits : Digits other
  pub long : length other ≡ length tape
  pub unused : drop (length (view w events) * f.dim) other ≡ drop (length (view w events) * f.dim) tape
  pub events_then : List Event
  pub end_then : State
  pub runs : Run (ready (opened f other)) calls events_then end_then
  pub looks : view w events_then ≡ view w events

-- It hides. For every tape of the first list of calls exactly one tape explains, with the second list, what host w was
-- shown; and each request meets the same refusal, or none, in both.
abbrev pub Hides : Vectors → Type 0
Hides f =
    (calls others : List Call) → Alike f.count calls others → (w : Side) →
    (tape : List ℕ) → Digits tape → (events : List Event) (end : State) → Run (ready (opened f tape)) calls events end →
    (other : List ℕ) × (e : Explains f others w tape events other) × (refusals e.events_then ≡ refusals events)
    × ((rival : List ℕ) → Explains f others w tape events rival → rival ≡ other)

-- both halves, for sessions opened on any family
abbrev pub LawOfRuns : Type 0
LawOfRuns = (f : Vectors) → Recovers f × Hides f
