-- What a host sees in a run, told from the calls and the tape.
use Rattle.std.proofs.Common.{◌≡◌, ℕ, ◌-◌, List, ◌∷◌, length, drop, Some, None, Ok, Err, Option, Result, refl, ap, ap₂, ◌∙◌, sym, drop-drop}
use Rattle.std.proofs.Math.Nat.{sub-add-eq}
use Rattle.faults.specs.declared.Fault.{Fault}
use Rattle.family.specs.Vectors.{Vectors}
use Rattle.scheme.specs.Queries.{second_query}
use Rattle.scheme.specs.Sessions.{Session, digits_left, next_digits, request_fault, outcome, after_request, after_recovery}
use Rattle.scheme.specs.Runs.{State, session_of, Call, request, Event, takes, declines, recovers, abandons, Run, none, more}
use Rattle.scheme.specs.Law.{Side, view, query_of}
use Rattle.scheme.proofs.Chunks.{seen_of}
use Rattle.scheme.proofs.Explaining.{seen}
use Rattle.scheme.proofs.Schedule.{left_after, offset_before, offsets}
use Rattle.scheme.proofs.Taken.{taken}

-- events show host w what the calls and the rest of the session's tape tell
abbrev Shows : Side → Session → List Call → List Event → Type 0
Shows w s cs es = view w es ≡ seen s.dim w (offsets s.count s.dim (digits_left s) cs) (drop s.place s.tape)

-- the two queries of a request show a host its chunk with the request's offset
query_seen : (k : ℕ) (w : Side) (f : Vectors) (t : ℕ) (z : List ℕ) → f.dim ≡ k → query_of w z (second_query f t z) ≡ seen_of k w (f.v t) z
unfolding second_query
query_seen k w f t z e = ap (λ n. seen_of n w (f.v t) z) e

-- what a request tells, once it is known what it met
request_tells : (w : Side) (s : Session) (f : Vectors) (t l m : ℕ) (cs : List Call) (met : Option Fault) →
    request_fault s.count s.dim (digits_left s) f t l m ≡ met →
    seen s.dim w (offset_before met (f.v t) (offsets s.count s.dim (left_after met s.dim (digits_left s)) cs)) (drop s.place s.tape)
    ≡ seen s.dim w (offsets s.count s.dim (digits_left s) (request f t l m ∷ cs)) (drop s.place s.tape)
request_tells w s f t l m cs met e =
    ap (λ o. seen s.dim w (offset_before o (f.v t) (offsets s.count s.dim (left_after o s.dim (digits_left s)) cs)) (drop s.place s.tape)) (sym e)

-- the calls after a request that was taken go on behind its chunk
chunk_used : (w : Side) (s : Session) (cs : List Call) (es : List Event) → Shows w (after_request s) cs es →
    view w es ≡ seen s.dim w (offsets s.count s.dim (digits_left s - s.dim) cs) (drop s.dim (drop s.place s.tape))
chunk_used w s cs es h =
    h ∙ ap₂ (λ r rest. seen s.dim w (offsets s.count s.dim r cs) rest) (sub-add-eq (length s.tape) s.place s.dim) (sym (drop-drop s.dim s.place s.tape))

-- a lookup that ends leaves the tape as it was
shows_ended : (w : Side) (s : Session) (outcome : Result ℕ Fault) (cs : List Call) (es : List Event) →
    Shows w (after_recovery outcome s) cs es → Shows w s cs es
shows_ended w s (Ok e) cs es h = h
shows_ended w s (Err fault) cs es h = h

pub run_shows : (w : Side) {s end : State} {cs : List Call} {es : List Event} → Run s cs es end → Shows w (session_of s) cs es
run_shows w none = refl
run_shows w (more {cs = cs} {es = es} (takes s f t l m ok) run) =
    ap₂ ◌∷◌ (query_seen s.dim w f t (next_digits s) (taken s.count s.dim (digits_left s) f t l m ok).dim_is)
    (chunk_used w s cs es (run_shows w run))
    ∙ request_tells w s f t l m cs None ok
run_shows w (more {cs = cs} (declines s f t l m fault amiss) run) = run_shows w run ∙ request_tells w s f t l m cs (Some fault) amiss
run_shows w (more {cs = cs} {es = es} (recovers s t turn f one two) run) =
    shows_ended w s (outcome s.count s.dim f t turn one two) cs es (run_shows w run)
run_shows w (more (abandons s t turn) run) = run_shows w run
