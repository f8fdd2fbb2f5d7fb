-- Steps, one after the other, are a run.
use Rattle.std.proofs.Common.{◌≡◌, ℕ, List, [], ◌∷◌}
use Rattle.family.specs.Vectors.{Vectors}
use Rattle.scheme.specs.Runs.{State, Call, Event, request, asked, Step, Run, none, more}

pub one_call : {s t : State} {c : Call} {e : Event} → Step s c e t → Run s (c ∷ []) (e ∷ []) t
one_call first = more first none

pub two_calls : {s t r : State} {c d : Call} {e g : Event} → Step s c e t → Step t d g r → Run s (c ∷ d ∷ []) (e ∷ g ∷ []) r
two_calls first second = more first (one_call second)

-- rows keep their lengths
pub same_lengths : {s r : State} {f : Vectors} {t l m x y : ℕ} {e : Event} → l ≡ x → m ≡ y → Step s (request f t l m) e r → Step s (request f t x y) e r
same_lengths first second step = rw (← first, ← second) step

-- what a request showed, told by what equals its queries
pub same_queries : {s r : State} {c : Call} {p q a b : List ℕ} → p ≡ a → q ≡ b → Step s c (asked p q) r → Step s c (asked a b) r
same_queries first second step = rw (← first, ← second) step
