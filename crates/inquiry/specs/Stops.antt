-- What a program of the code comes to, or why it stops.
use Rattle.std.specs.Prelude.{◌≡◌, ℕ, List, Some, None, Option, Result, MatchResult}
use Rattle.faults.specs.declared.Fault.{Fault}
use Rattle.faults.specs.Faults.{number_of}
use Rattle.inquiry.specs.Text.{refusal_text}
use Rattle.inquiry.specs.declared.stop.Stop.{Stop}
use Rattle.inquiry.specs.declared.stop.Stop.TheVariants.{Form, Refused, Memory}

-- A lookup stops with the fault that is due, or since memory ran out.
abbrev pub StopsWith : Option Fault → Stop → Type 0
StopsWith due Form = ⊥
StopsWith due (Refused fault) = due ≡ Some fault
StopsWith due (Memory error) = Unit {0}

-- It finds what is as P says, and then no fault is due.
abbrev pub Finds : {A : Type 0} → Option Fault → (A → Type 0) → Result A Stop → Type 0
Finds due P result = MatchResult result (λ found. (due ≡ None) × P found) (StopsWith due)

-- A reading stops where there is nothing to be read, or since memory ran out.
abbrev pub StopsReading : {A : Type 0} → Option A → Stop → Type 0
StopsReading there Form = there ≡ None
StopsReading there (Refused fault) = ⊥
StopsReading there (Memory error) = Unit {0}

-- It gives what is there to be read, in the words of the code.
abbrev pub ReadsAs : {A B : Type 0} → (B → A) → Option A → Result B Stop → Type 0
ReadsAs meant there result = MatchResult result (λ read. Some (meant read) ≡ there) (StopsReading there)

-- What a program prints where it stops: an input of another form is refused by number 1, and without memory nothing is printed.
abbrev pub stop_text : Stop → Option (List ℕ)
stop_text Form = Some (refusal_text 1)
stop_text (Refused fault) = Some (refusal_text (number_of fault.cause))
stop_text (Memory error) = None
