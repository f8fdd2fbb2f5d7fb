-- Tests that refuse: when one has passed, what that says of a length or a number, and which of two decides.
use Rattle.std.proofs.Common.{◌≡◌, ℕ, Bool, true, false, cond, List, length, Some, None, Option, eqb, eqb-true, eq-eqb, sym, refl, ap, ◌∙◌, inl, inr, arith}
use Rattle.std.proofs.lemmas.Bool.{cases_Bool, cond-true, cond-false}
use Rattle.faults.specs.declared.Fault.{Fault}
use Rattle.faults.specs.declared.Layer.{Layer}
use Rattle.digits.specs.Refusals.{or_else, width_fault, long_fault, equal_fault}

pub some≢none : {X : Type 0} (x : X) → ◌≡◌ {A = Option X} (Some x) None → ⊥
some≢none x e = let z : ◌≡◌ {A = ℕ} 0 1 = cc in omega arith

-- a test that refuses where it fails has passed, and one that refuses where it passes has failed
pub passed : {X : Type 0} (b : Bool) (x : X) → cond b None (Some x) ≡ None → b ≡ true
passed b x e =
    elim (cases_Bool b) [ inl t ↦ t | inr n ↦ absurd (some≢none x (sym (cond-false b None (Some x) n) ∙ e)) ]

pub failed : {X : Type 0} (b : Bool) (x : X) → cond b (Some x) None ≡ None → b ≡ false
failed b x e =
    elim (cases_Bool b) [ inl t ↦ absurd (some≢none x (sym (cond-true b (Some x) None t) ∙ e)) | inr n ↦ n ]

-- a length is not refused exactly where it is the one needed
pub width_is : (n found : ℕ) → width_fault n found ≡ None → found ≡ n
width_is n found e = eqb-true found n (passed (eqb found n) _ e)

-- the same of a row
pub long_is : (n : ℕ) (xs : List ℕ) → long_fault n xs ≡ None → length xs ≡ n
long_is n xs e = width_is n (length xs) e

pub long_passes : (n : ℕ) (xs : List ℕ) → length xs ≡ n → long_fault n xs ≡ None
long_passes n xs e = cond-true (eqb (length xs) n) None _ (eq-eqb (length xs) n e)

-- a count or a dimension is not refused exactly where it is the one needed
pub equal_is : (part : Layer) (n found : ℕ) → equal_fault part n found ≡ None → found ≡ n
equal_is part n found e = eqb-true found n (passed (eqb found n) _ e)

pub equal_passes : (part : Layer) (n found : ℕ) → found ≡ n → equal_fault part n found ≡ None
equal_passes part n found e = cond-true (eqb found n) None _ (eq-eqb found n e)

-- nothing is amiss exactly where neither of two checks finds a fault
pub or_else_none : (first second : Option Fault) → or_else first second ≡ None → (first ≡ None) × (second ≡ None)
or_else_none None second e = (refl, e)
or_else_none (Some f) second e = absurd (some≢none f e)

-- where the first check passes, the second decides
pub goes_on : (first second o : Option Fault) → first ≡ None → second ≡ o → or_else first second ≡ o
goes_on first second o e h = ap (λ f. or_else f second) e ∙ h

pub none_or_else : (first second : Option Fault) → first ≡ None → second ≡ None → or_else first second ≡ None
none_or_else first second e h = goes_on first second None e h

-- where the first check finds a fault, that is it
pub stops : (first second : Option Fault) (f : Fault) → first ≡ Some f → or_else first second ≡ Some f
stops first second f e = ap (λ o. or_else o second) e
