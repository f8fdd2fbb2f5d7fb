-- What a call of the code did is a step of the law of all runs.
use Rattle.std.proofs.Common.{◌≡◌, ℕ, ◌+◌, ◌%◌, List, length, drop, None, Result, refl, sym, ap, ap₂, ◌∙◌, arith, length-take, length-drop}
use Rattle.std.proofs.lemmas.List.FromFn.{fill_by_all}
use Rattle.faults.specs.declared.Fault.{Fault}
use Rattle.digits.specs.Rows.{at, row}
use Rattle.family.specs.Vectors.{Vectors}
use Rattle.scheme.proofs.Taken.{taken, widths}
use Rattle.scheme.specs.Queries.{second_query, shift}
use Rattle.scheme.specs.Sessions.{Session, digits_left, next_digits, request_fault, outcome, after_request, after_recovery, after_loss}
use Rattle.scheme.specs.Runs.{State, ready, waiting, request, recover, abandon, asked, recovered, abandoned, Step, takes, recovers, abandons}

-- what a request writes whose tests have passed: as many tape digits as a query has are the next ones, and displaced they are
-- the second query
pub asks_first : (s : Session) (f : Vectors) (t l m : ℕ) (z : List ℕ) → request_fault s.count s.dim (digits_left s) f t l m ≡ None →
    z ≡ next_digits s → row l (at z) ≡ next_digits s
asks_first s f t l m z none is =
    let fits = taken s.count s.dim (digits_left s) f t l m none in
    let left = drop s.place s.tape in
    let long : length (next_digits s) ≡ l =
    omega (arith, fits.room, length-take s.dim left, length-drop s.place s.tape, (widths _ _ _ f t l m none).0) in
    ap (λ x. row l (at x)) is ∙ sym (fill_by_all (at (next_digits s)) (next_digits s) l 0 long (λ k h. refl))

pub asks_second : (s : Session) (f : Vectors) (t l m : ℕ) (z : List ℕ) → request_fault s.count s.dim (digits_left s) f t l m ≡ None →
    z ≡ next_digits s → row m (λ c. (at z c + f.v t c) % 6) ≡ second_query f t (next_digits s)
unfolding second_query
asks_second s f t l m z none is =
    let fits = taken s.count s.dim (digits_left s) f t l m none in
    let wide : m ≡ f.dim = omega (arith, fits.dim_is, (widths _ _ _ f t l m none).1) in
    ap₂ (λ n x. row n (λ c. (at x c + f.v t c) % 6)) wide is

pub step_taken : (s : Session) (f : Vectors) (t l m : ℕ) (p q : List ℕ) (w : State) →
    request_fault s.count s.dim (digits_left s) f t l m ≡ None →
    p ≡ next_digits s → q ≡ second_query f t (next_digits s) → w ≡ waiting (after_request s) t (shift f t (next_digits s)) →
    Step (ready s) (request f t l m) (asked p q) w
step_taken s f t l m p q w none first second waits = rw (first, second, waits) (takes s f t l m none)

pub step_recovered : (s r : Session) (t turn : ℕ) (f : Vectors) (one two : List ℕ) (result : Result ℕ Fault) →
    result ≡ outcome s.count s.dim f t turn one two → r ≡ after_recovery result s →
    Step (waiting s t turn) (recover f one two) (recovered result) (ready r)
step_recovered s r t turn f one two result reads after = rw (after, reads) (recovers s t turn f one two)

pub step_abandoned : (s r : Session) (t turn : ℕ) → r ≡ after_loss s → Step (waiting s t turn) abandon abandoned (ready r)
step_abandoned s r t turn after = rw after (abandons s t turn)
