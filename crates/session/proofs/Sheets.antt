-- What a recovery comes to: with the session's own family it is refused for its sheets alone, with another for that.
use Rattle.std.proofs.Common.{◌≡◌, ℕ, List, None, Some, Err, refl, sym, ap, eq-eqb}
use Rattle.faults.specs.declared.Fault.{Fault}
use Rattle.std.proofs.lemmas.Bool.{cond-true}
use Rattle.digits.proofs.Passing.{none_or_else, stops}
use Rattle.family.specs.Vectors.{Vectors}
use Rattle.scheme.specs.Recovery.{found, read_entry}
use Rattle.scheme.specs.Sessions.{family_fault, sheets_fault, read_or_odds, unless, outcome}

pub own_family : (f : Vectors) → family_fault f.count f.dim f ≡ None
own_family f =
    none_or_else _ _ (cond-true _ None _ (eq-eqb f.count f.count refl)) (cond-true _ None _ (eq-eqb f.dim f.dim refl))

pub own_outcome : (f : Vectors) (t turn : ℕ) (one two : List ℕ) →
    outcome f.count f.dim f t turn one two ≡ unless (sheets_fault f.dim one two) (read_or_odds t (read_entry (found f t turn one two)))
unfolding outcome
own_outcome f t turn one two = rw (own_family f)

-- a family of another count or dimension is refused first
pub other_outcome : (n k : ℕ) (f : Vectors) (t turn : ℕ) (one two : List ℕ) (fault : Fault) → family_fault n k f ≡ Some fault →
    Err fault ≡ outcome n k f t turn one two
unfolding outcome
other_outcome n k f t turn one two fault met =
    ap (λ amiss. unless amiss (read_or_odds t (read_entry (found f t turn one two)))) (sym (stops _ _ _ met))
