-- Steps: a session is opened on every tape of digits; each call in turn has a step, and only one; a request is taken, and an entry
-- is read, exactly where all that was handed over fits.
use Rattle.std.specs.Prelude.{◌≡◌, ℕ, ◌-◌, ◌<◌, ◌≤◌, List, length, None, Ok}
use Rattle.digits.specs.Elements.{scaled}
use Rattle.digits.specs.Rows.{Digits}
use Rattle.family.specs.Vectors.{Vectors}
use Rattle.scheme.specs.Answers.{Sheet}
use Rattle.scheme.specs.Recovery.{D, found}
use Rattle.scheme.specs.Sessions.{Session, opening_fault}
use Rattle.scheme.specs.Runs.{State, ready, waiting, Call, request, recover, abandon, Event, asked, recovered, Step}

-- Calls in turn: a ready session takes requests, and a waiting one takes recoveries and abandonments. (A program with any other
-- call is not accepted.)
abbrev pub InTurn : State → Call → Type 0
InTurn (ready s) (request f t l m) = Unit {0}
InTurn (ready s) (recover f one two) = ⊥
InTurn (ready s) abandon = ⊥
InTurn (waiting s t turn) (request f o l m) = ⊥
InTurn (waiting s t turn) (recover f one two) = Unit {0}
InTurn (waiting s t turn) abandon = Unit {0}

-- A request can be taken: its family has the session's count and dimension, both rows are as long as a query, the position is
-- below the count, and as many tape digits are left as a query has.
pub record Takeable (s : Session) (f : Vectors) (t l m : ℕ) : Type 0 where
  pub count_is : f.count ≡ s.count
  pub dim_is : f.dim ≡ s.dim
  pub first_long : l ≡ s.dim
  pub second_long : m ≡ s.dim
  pub below : t < s.count
  pub enough : s.dim ≤ length s.tape - s.place

-- An entry e can be read from two rows for position t and shift turn: the family has the session's count and dimension, both rows are
-- sheets, and X, what they come to, is e times D.
pub record Readable (s : Session) (f : Vectors) (t turn : ℕ) (one two : List ℕ) (e : ℕ) : Type 0 where
  pub count_is : f.count ≡ s.count
  pub dim_is : f.dim ≡ s.dim
  pub first_fits : Sheet f one
  pub second_fits : Sheet f two
  pub digit : e < 6
  pub comes_to : found f t turn one two ≡ scaled e D

pub record OneStep : Type 0 where
  -- opening refuses exactly the rows that are no tape of digits
  pub opens : (tape : List ℕ) → opening_fault tape ≡ None → Digits tape
  pub opens_all : (tape : List ℕ) → Digits tape → opening_fault tape ≡ None
  -- whatever is handed over, such a call shows something and leads somewhere
  pub some_step : (s : State) (c : Call) → InTurn s c → (e : Event) × (t : State) × Step s c e t
  -- what it shows and where it leads is settled
  pub same_step : {s t r : State} {c : Call} {e g : Event} → Step s c e t → Step s c g r → (e ≡ g) × (t ≡ r)
  pub no_other : {s t : State} {c : Call} {e : Event} → Step s c e t → InTurn s c
  -- exactly the requests that can be taken are: they show two queries
  pub takes_all : (s : Session) (f : Vectors) (t l m : ℕ) → Takeable s f t l m →
      (p : List ℕ) × (q : List ℕ) × (n : State) × Step (ready s) (request f t l m) (asked p q) n
  pub takes_no_other : {s : Session} {f : Vectors} {t l m : ℕ} {p q : List ℕ} {n : State} → Step (ready s) (request f t l m) (asked p q) n → Takeable s f t l m
  -- exactly the entries that can be read are
  pub reads_all : (s : Session) (f : Vectors) (t turn : ℕ) (one two : List ℕ) (e : ℕ) → Readable s f t turn one two e →
      (n : State) × Step (waiting s t turn) (recover f one two) (recovered (Ok e)) n
  pub reads_no_other : {s : Session} {f : Vectors} {t turn : ℕ} {one two : List ℕ} {e : ℕ} {n : State} →
      Step (waiting s t turn) (recover f one two) (recovered (Ok e)) n → Readable s f t turn one two e
