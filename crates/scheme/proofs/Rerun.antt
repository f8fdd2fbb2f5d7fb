-- Calls alike run on another session that has as many tape digits left, and each request meets the same fault, or none.
use Rattle.std.proofs.Common.{◌≡◌, ℕ, ◌-◌, ◌<◌, ◌⊎◌, List, [], ◌∷◌, Some, None, Ok, Err, Result, refl, ap, ◌∙◌, sym, arith}
use Rattle.faults.specs.declared.Fault.{Fault}
use Rattle.family.specs.Vectors.{Vectors}
use Rattle.scheme.specs.Sessions.{Session, digits_left, request_fault, outcome, after_request, after_recovery}
use Rattle.scheme.specs.Runs.{State, ready, waiting, Call, Event, takes, declines, recovers, abandons, Run, none, more}
use Rattle.scheme.specs.Law.{refusals, Alike, end, requests, recoveries, abandonments}
use Rattle.scheme.proofs.Schedule.{fault_alike}

-- a session of count n and dimension k that has r tape digits left
abbrev Stands : ℕ → ℕ → ℕ → Session → Type 0
Stands n k r s = (s.count ≡ n) × (s.dim ≡ k) × (digits_left s ≡ r)

-- two such sessions, both ready or both waiting
pub data Together (n k r : ℕ) : State → State → Type 0 where
  both_ready : {s q : Session} → Stands n k r s → Stands n k r q → Together n k r (ready s) (ready q)
  both_waiting : {s q : Session} {t o turn back : ℕ} → Stands n k r s → Stands n k r q → Together n k r (waiting s t turn) (waiting q o back)

-- which fault a request meets, or none, is told from these numbers
fault_stands : (n k r : ℕ) (s : Session) → Stands n k r s → (f : Vectors) (t l m : ℕ) →
    request_fault s.count s.dim (digits_left s) f t l m ≡ request_fault n k r f t l m
fault_stands n k r s (count, dim, left) f t l m = λ i. request_fault (count i) (dim i) (left i) f t l m

-- they fall by k with a request that is taken, and a lookup that ends leaves them
stands_request : (n k r : ℕ) (s : Session) → Stands n k r s → Stands n k (r - k) (after_request s)
stands_request n k r s (count, dim, left) = (count, dim, omega arith)

stands_ended : (n k r : ℕ) (s : Session) → Stands n k r s → (outcome : Result ℕ Fault) → Stands n k r (after_recovery outcome s)
stands_ended n k r s h (Ok e) = h
stands_ended n k r s h (Err fault) = h

-- so requests alike meet the same on two such sessions
same_fault : (n k r : ℕ) (s q : Session) → Stands n k r s → Stands n k r q → (f : Vectors) (t o l m : ℕ) → (t ≡ o) ⊎ ((t < n) × (o < n)) →
    request_fault q.count q.dim (digits_left q) f o l m ≡ request_fault s.count s.dim (digits_left s) f t l m
same_fault n k r s q hs hq f t o l m near =
    fault_stands n k r q hq f o l m ∙ sym (fault_alike n k r f t o l m near) ∙ sym (fault_stands n k r s hs f t l m)

-- step by step, the other session goes along
pub other_run : (n k r : ℕ) {cs ds : List Call} → Alike n cs ds → {s end : State} {es : List Event} → Run s cs es end → {q : State} → Together n k r s q →
    (fs : List Event) × (last : State) × Run q ds fs last × (refusals fs ≡ refusals es)
other_run n k r end none {q = q} both = ([], q, none, refl)
other_run n k r (requests {o = o} near a) (more (takes s f t l m ok) run) (both_ready {q = q} hs hq) =
    let (fs, last, then, same) = other_run n k (r - k) a run (both_waiting (stands_request n k r s hs) (stands_request n k r q hq)) in
    (_, last, more (takes q f o l m (same_fault n k r s q hs hq f t o l m near ∙ ok)) then, ap (λ rs. None ∷ rs) same)
other_run n k r (requests {o = o} near a) (more (declines s f t l m fault amiss) run) (both_ready {q = q} hs hq) =
    let (fs, last, then, same) = other_run n k r a run (both_ready hs hq) in
    (_, last, more (declines q f o l m fault (same_fault n k r s q hs hq f t o l m near ∙ amiss)) then, ap (λ rs. Some fault ∷ rs) same)
other_run n k r (recoveries {h = g} {y = y} {z = z} a) (more (recovers s t turn f one two) run) (both_waiting {q = q} {o = o} {back = back} hs hq) =
    let (fs, last, then, same) = other_run n k r a run
    (both_ready (stands_ended n k r s hs (outcome s.count s.dim f t turn one two)) (stands_ended n k r q hq (outcome q.count q.dim g o back y z))) in
    (_, last, more (recovers q o back g y z) then, same)
other_run n k r (abandonments a) (more (abandons s t turn) run) (both_waiting {q = q} {o = o} {back = back} hs hq) =
    let (fs, last, then, same) = other_run n k r a run (both_ready hs hq) in
    (_, last, more (abandons q o back) then, same)
