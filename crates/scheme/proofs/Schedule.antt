-- Which requests are taken, told from the calls and the number of tape digits left alone.
use Rattle.std.proofs.Common.{◌≡◌, ℕ, ◌-◌, ◌<◌, ◌≤◌, ◌⊎◌, List, [], ◌∷◌, Some, None, Option, refl, ap, inl, inr, lt-ltb}
use Rattle.faults.specs.declared.Fault.{Fault}
use Rattle.family.specs.Vectors.{Vectors}
use Rattle.scheme.specs.Sessions.{request_fault}
use Rattle.scheme.specs.Runs.{Call, request, recover, abandon}
use Rattle.scheme.specs.Law.{Alike, end, requests, recoveries, abandonments}
use Rattle.scheme.proofs.Chunks.{Offset}
use Rattle.scheme.proofs.Explaining.{Paired, end, next}
use Rattle.scheme.proofs.Taken.{taken}

-- the tape digits left after a request that met a fault or none, of r before it, where one that is taken uses k
abbrev pub left_after : Option Fault → ℕ → ℕ → ℕ
left_after None k r = r - k
left_after (Some fault) k r = r

-- its offset before those that follow, if it was taken
abbrev pub offset_before : Option Fault → Offset → List Offset → List Offset
offset_before None v vs = v ∷ vs
offset_before (Some fault) v vs = vs

-- the offsets of the requests that a session of count n and dimension k takes, with r tape digits left
abbrev pub offsets : ℕ → ℕ → ℕ → List Call → List Offset
offsets n k r [] = []
offsets n k r (request f t l m ∷ cs) =
    offset_before (request_fault n k r f t l m) (f.v t) (offsets n k (left_after (request_fault n k r f t l m) k r) cs)
offsets n k r (recover f one two ∷ cs) = offsets n k r cs
offsets n k r (abandon ∷ cs) = offsets n k r cs

-- which position below the count is asked for makes no difference
pub fault_alike : (n k r : ℕ) (f : Vectors) (t o l m : ℕ) → (t ≡ o) ⊎ ((t < n) × (o < n)) →
    request_fault n k r f t l m ≡ request_fault n k r f o l m
fault_alike n k r f t o l m (inl e) = ap (λ x. request_fault n k r f x l m) e
fault_alike n k r f t o l m (inr below) = rw (lt-ltb t n below.0, lt-ltb o n below.1)

-- one request more: its offset in both lists, or in neither
paired_before : (k r : ℕ) (met : Option Fault) (v o : Offset) (vs os : List Offset) → (met ≡ None → k ≤ r) →
    Paired k (left_after met k r) vs os → Paired k r (offset_before met v vs) (offset_before met o os)
paired_before k r None v o vs os wide pairs = next (wide refl) pairs
paired_before k r (Some fault) v o vs os wide pairs = pairs

-- two lists of calls alike have offsets in pairs
pub alike_paired : (n k : ℕ) {cs ds : List Call} → Alike n cs ds → (r : ℕ) → Paired k r (offsets n k r cs) (offsets n k r ds)
alike_paired n k end r = end
alike_paired n k (requests {f = f} {t = t} {o = o} {l = l} {m = m} near a) r =
    rw (fault_alike n k r f t o l m near)
    (paired_before k r (request_fault n k r f o l m) (f.v t) (f.v o) _ _ (λ e. (taken n k r f o l m e).room)
    (alike_paired n k a (left_after (request_fault n k r f o l m) k r)))
alike_paired n k (recoveries a) r = alike_paired n k a r
alike_paired n k (abandonments a) r = alike_paired n k a r
