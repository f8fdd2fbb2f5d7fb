-- What a status says: 0 is no fault's number, and 8 is that of sheets at odds alone.
use Rattle.std.proofs.Common.{◌≡◌, ℕ, List, length, Bool, true, false, cond, Some, None, Ok, Err, Option, Result, MatchOption, MatchResult, sym, refl, ◌∙◌, arith}
use Rattle.faults.specs.declared.Cause.{Cause}
use Rattle.faults.specs.declared.Fault.{Fault}
use Rattle.faults.specs.declared.Layer.{Layer}
use Rattle.faults.specs.Faults.{number_of, length_fault, digit_fault, size_fault, position_fault, at_odds_fault}
use Rattle.digits.specs.Rows.{first_above}
use Rattle.digits.specs.Refusals.{or_else, limit_fault, equal_fault, long_fault, below_fault, digits_fault}
use Rattle.scheme.specs.Sessions.{unless, read_or_odds}

never_0 : (cause : Cause) → number_of cause ≡ 0 → ⊥
never_0 cause e = grind arith

-- what a call promises where its status is 0
pub where_taken : (P : Type 0) (Q : Fault → Type 0) (outcome : Result (Unit {0}) Fault) (status : ℕ) →
    MatchResult outcome (λ _. P) Q → MatchResult outcome (λ _. status ≡ 0) (λ e. status ≡ number_of e.cause) → status ≡ 0 → P
where_taken P Q (Ok u) status promise tells zero = promise
where_taken P Q (Err e) status promise tells zero = absurd (never_0 e.cause (sym tells ∙ zero))

-- and where it is another number
pub where_refused : (P : Type 0) (Q : Fault → Type 0) (outcome : Result (Unit {0}) Fault) (status n : ℕ) → (n ≡ 0 → ⊥) →
    MatchResult outcome (λ _. P) Q → MatchResult outcome (λ _. status ≡ 0) (λ e. status ≡ number_of e.cause) → status ≡ n →
    (e : Fault) × (number_of e.cause ≡ n) × Q e
where_refused P Q (Ok u) status n some promise tells is = absurd (some (sym is ∙ tells))
where_refused P Q (Err e) status n some promise tells is = (e, sym tells ∙ is, promise)

-- a check that never finds sheets at odds
abbrev pub Other : Option Fault → Type 0
Other o = (e : Fault) → o ≡ Some e → number_of e.cause ≡ 8 → ⊥

test : (b : Bool) (f : Fault) → (number_of f.cause ≡ 8 → ⊥) → Other (cond b None (Some f))
test true f not e is odd = cc
test false f not e is odd = let same : f ≡ e = cc in not (rw same odd)

pub other_limit : (part : Layer) (low high n : ℕ) → Other (limit_fault part low high n)
other_limit part low high n = test _ (size_fault part n) (λ e. omega arith)

pub other_equal : (part : Layer) (n found : ℕ) → Other (equal_fault part n found)
other_equal part n found = test _ (size_fault part found) (λ e. omega arith)

pub other_long : (n : ℕ) (xs : List ℕ) → Other (long_fault n xs)
other_long n xs = test _ (length_fault (length xs)) (λ e. omega arith)

pub other_below : (part : Layer) (n t : ℕ) → Other (below_fault part n t)
other_below part n t = test _ (position_fault part t) (λ e. omega arith)

pub other_digits : (xs : List ℕ) → Other (digits_fault xs)
other_digits xs = test _ (digit_fault (first_above xs)) (λ e. omega arith)

pub other_or_else : (first second : Option Fault) → Other first → Other second → Other (or_else first second)
other_or_else None second a b = b
other_or_else (Some f) second a b = a

-- what is read is not what was amiss before, where it is an entry
pub read_anyway : (amiss : Option Fault) (result : Result ℕ Fault) (e : ℕ) → unless amiss result ≡ Ok e → result ≡ Ok e
read_anyway None result e is = is
read_anyway (Some f) result e is = cc

-- nor where it is that the sheets are at odds
pub odd_anyway : (amiss : Option Fault) (result : Result ℕ Fault) (e : Fault) → Other amiss → number_of e.cause ≡ 8 →
    unless amiss result ≡ Err e → result ≡ Err e
odd_anyway None result e other odd is = is
odd_anyway (Some f) result e other odd is = let same : f ≡ e = cc in absurd (other f refl (rw same odd))

pub odds_only : (t : ℕ) (found : Option ℕ) (e : Fault) → read_or_odds t found ≡ Err e → e ≡ at_odds_fault t
odds_only t (Some x) e is = cc
odds_only t None e is = cc

-- A call from C whose status is 0 refused nothing.
pub went_on : (P : Type 0) (Q : Fault → Type 0) (amiss : Option Fault) (status : ℕ) → MatchOption amiss P Q →
    ((e : Fault) → Q e → status ≡ number_of e.cause) → status ≡ 0 → (amiss ≡ None) × P
went_on P Q None status promise tells zero = (refl, promise)
went_on P Q (Some e) status promise tells zero = absurd (never_0 e.cause (sym (tells e promise) ∙ zero))
