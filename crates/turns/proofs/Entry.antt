-- The calls of a first lookup are a run, of which the law tells the entry.
use Rattle.std.proofs.Common.{◌≡◌, ℕ, ◌<◌, List, [], ◌∷◌, Ok, Result, sym}
use Rattle.faults.specs.declared.Fault.{Fault}
use Rattle.digits.specs.Rows.{Digits}
use Rattle.family.specs.Vectors.{Vectors, MatchingFamily}
use Rattle.scheme.specs.Answers.{answered, sheet_of, Table}
use Rattle.scheme.specs.Law.{Recovers, here}
use Rattle.scheme.specs.Runs.{State, ready, Step, none, more, request, recover, asked, recovered}
use Rattle.scheme.specs.Sessions.{Session, opened}
use Rattle.scheme.proofs.Tables.{tables}

-- A request and the recovery after it are a run. Where the tables agree, the second host is one of the first one's table too.
pub entry : (f : Vectors) → MatchingFamily f → Recovers f → (tape : List ℕ) → Digits tape → (s : Session) → s ≡ opened f tape →
    (t l m : ℕ) (p q one two : List ℕ) (w end : State) (r : Result ℕ Fault) →
    Step (ready s) (request f t l m) (asked p q) w → Step w (recover f one two) (recovered r) end →
    (a b : ℕ → ℕ) → Table f a → ((i : ℕ) → i < f.count → a i ≡ b i) → one ≡ sheet_of f a p → two ≡ sheet_of f b q →
    r ≡ Ok (a t)
entry f matching law tape digits s opens t l m p q one two w end r asks reads a b table same one_is two_is =
    let start : Step (ready (opened f tape)) (request f t l m) (asked p q) w = rw (← opens) asks in
    let shown : recovered r ≡ recovered (Ok (a t)) =
    law tape digits (request f t l m ∷ recover f one two ∷ []) (asked p q ∷ recovered r ∷ []) end (more start (more reads none))
    f matching t l m p q one two (recovered r) here a table (answered f a) (answered f b) (tables.some_host f a)
    (tables.same_entries f b a (λ i h. sym (same i h)) (answered f b) (tables.some_host f b)) one_is two_is in
    cc
