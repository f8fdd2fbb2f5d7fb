-- The stages of a whole lookup by the calls from C: what each promises where those before it refused nothing.
use Rattle.std.proofs.Common.{◌≡◌, ℕ, List, [], ◌∷◌, length, replicate, Some, None, Ok, Option, MatchOption, MatchResult, refl, ap, ◌∙◌, subst}
use Rattle.faults.specs.declared.Fault.{Fault}
use Rattle.faults.specs.declared.Layer.TheVariants.{Host as HostLayer}
use Rattle.faults.specs.Faults.{number_of}
use Rattle.digits.specs.Rows.{at, Digits}
use Rattle.digits.specs.Refusals.{or_else, limit_fault, equal_fault, width_fault, long_fault, digits_fault}
use Rattle.digits.proofs.DigitRows.{remainders, digits_pass}
use Rattle.digits.proofs.Passing.{or_else_none, long_is, long_passes}
use Rattle.family.specs.Vectors.{Vectors}
use Rattle.scheme.specs.Answers.{Query, answered, sheet_of, sheet_size, zero_sheet}
use Rattle.scheme.specs.Sessions.{unless}
use Rattle.scheme.proofs.FitRows.{zeros, answered_fit}
use Rattle.scheme.proofs.Steps.{stepping}
use Rattle.host.specs.Dense.{dense_fault}
use Rattle.words.specs.Words.{word_dim, word_vectors, words_fault}
use Rattle.bootloader.specs.Calls.{answer_call_fault, call_outcome}
use Rattle.bootloader.specs.Lookups.{first_host_fault}
use Rattle.bootloader.proofs.Begun.{Begun}
use Rattle.bootloader.proofs.Statuses.{went_on}

nothing_after : (o : Option Fault) → or_else o None ≡ o
nothing_after None = refl
nothing_after (Some f) = refl

-- where a call refused nothing, what comes after it decides
pub after : (P : Type 0) (Q : Fault → Type 0) (amiss rest : Option Fault) → amiss ≡ None → MatchOption rest P Q → MatchOption (or_else amiss rest) P Q
after P Q amiss rest none promise = rw none promise

-- a host's status, and the sheet that it leaves, where so much is amiss
pub record Answers (h q status : ℕ) (table query left : List ℕ) (amiss : Option Fault) : Type 0 where
  pub told : MatchOption amiss ((status ≡ 0) × (left ≡ sheet_of (word_vectors h q) (at table) query)) (λ e. status ≡ number_of e.cause)

pub answered_all : {h q status : ℕ} {table query left : List ℕ} {amiss : Option Fault} → Answers h q status table query left amiss → status ≡ 0 →
    (amiss ≡ None) × (left ≡ sheet_of (word_vectors h q) (at table) query)
answered_all {status = status} {amiss = amiss} answers zero =
    let (none, taken) = went_on _ _ amiss status answers.told (λ e number. number) zero in
    (none, taken.1)

pub refused_all : {h q status : ℕ} {table query left : List ℕ} {amiss : Option Fault} (R : Type 0) (row : List ℕ) (rest : Option Fault) →
    Answers h q status table query left amiss → (status ≡ 0 → ⊥) →
    MatchOption (or_else amiss rest) R (λ e. (status ≡ number_of e.cause) × (row ≡ row))
refused_all {amiss = None} R row rest answers not = absurd (not answers.told.0)
refused_all {amiss = Some e} R row rest answers not = (answers.told, refl)

-- where the first host refused nothing, its table is one of digits and its row is as long as a sheet
pub record HostPassed (h q : ℕ) (table one : List ℕ) : Type 0 where
  pub dense : dense_fault table ≡ None
  pub counted : equal_fault HostLayer (length table) (word_vectors h q).count ≡ None
  pub long : long_fault (sheet_size (word_dim h q)) one ≡ None
  pub digits : Digits table

pub host_passed : (h q : ℕ) (table one : List ℕ) → first_host_fault h q table one ≡ None → HostPassed h q table one
host_passed h q table one none =
    let (dense, more) = or_else_none (dense_fault table) _ none in
    let (counted, long) = or_else_none (equal_fault HostLayer (length table) (word_vectors h q).count) _ more in
    let (few, digits) = or_else_none (limit_fault HostLayer 1 1048576 (length table)) (digits_fault table) dense in
    record { dense = dense; counted = counted; long = long; digits = stepping.opens table digits }

module _ (h q status : ℕ) (table query before zeroed left : List ℕ) (words : words_fault h q ≡ None) (fit : Query (word_vectors h q) query)
    (blank : zeroed ≡ replicate (length before) 0)
    (promise : MatchOption (answer_call_fault h q table query zeroed)
    ((status ≡ 0) × (left ≡ answered (word_vectors h q) (at table) query zeroed)) (λ e. (status ≡ number_of e.cause) × (left ≡ zeroed))) where
  -- a host that is asked a query into a row of zeros refuses its table, its count and the row's length alone
  host_refuses : answer_call_fault h q table query zeroed ≡ first_host_fault h q table before
  host_refuses =
      let f : Vectors = word_vectors h q in
      let n : ℕ = length before in
      let (size, digits) = remainders n (λ i. 0) in
      let long : length zeroed ≡ n = ap length (blank ∙ zeros n) ∙ size in
      let query_long : long_fault f.dim query ≡ None = long_passes f.dim query fit.0 in
      let query_digits : digits_fault query ≡ None = digits_pass query fit.1 in
      let zero_digits : digits_fault zeroed ≡ None = ap digits_fault (blank ∙ zeros n) ∙ digits_pass _ digits in
      let width : long_fault (sheet_size f.dim) zeroed ≡ long_fault (sheet_size f.dim) before = ap (width_fault (sheet_size f.dim)) long in
      rw (words, query_long, query_digits, zero_digits, width, nothing_after (long_fault (sheet_size f.dim) before)) refl

  -- and where it refuses nothing, it leaves the sheet of its table
  pub first_answers : Answers h q status table query left (first_host_fault h q table before)
  first_answers = record { told = sheet_left (first_host_fault h q table before) refl (rw host_refuses at promise) }
    where
      sheet_left : (amiss : Option Fault) → first_host_fault h q table before ≡ amiss →
          MatchOption amiss ((status ≡ 0) × (left ≡ answered (word_vectors h q) (at table) query zeroed))
          (λ e. (status ≡ number_of e.cause) × (left ≡ zeroed)) →
          MatchOption amiss ((status ≡ 0) × (left ≡ sheet_of (word_vectors h q) (at table) query)) (λ e. status ≡ number_of e.cause)
      sheet_left None none given =
          let f : Vectors = word_vectors h q in
          let size : length before ≡ sheet_size f.dim =
          long_is (sheet_size f.dim) before (host_passed h q table before none).long in
          (given.0, given.1 ∙ ap (answered f (at table) query) (blank ∙ ap (λ n. replicate n 0) size ∙ zeros (sheet_size f.dim)))
      sheet_left (Some e) some given = given.0

  -- the second host, where the first refused nothing, refuses its row's length alone
  pub second_answers : (one : List ℕ) → HostPassed h q table one → Answers h q status table query left (long_fault (sheet_size (word_dim h q)) before)
  second_answers one first =
      let same : first_host_fault h q table before ≡ long_fault (sheet_size (word_dim h q)) before = rw (first.dense, first.counted) refl in
      subst (Answers h q status table query left) same first_answers

-- a recovery of the rows that the calls before it wrote gives the table's entry, or refuses the length of its own row
pub recovers : (h q t status : ℕ) (tape first second turn p r made table one two row written : List ℕ) → Begun h q t tape first second turn p r made →
    Digits table → one ≡ sheet_of (word_vectors h q) (at table) p → two ≡ sheet_of (word_vectors h q) (at table) r →
    MatchResult (call_outcome h q t made one two row)
    (λ x. (status ≡ 0) × (written ≡ x ∷ [])) (λ x. (status ≡ number_of x.cause) × (written ≡ row)) →
    MatchOption (long_fault 1 row) ((status ≡ 0) × (written ≡ at table t ∷ [])) (λ x. (status ≡ number_of x.cause) × (written ≡ row))
recovers h q t status tape first second turn p r made table one two row written begun digits one_is two_is promise =
    let f : Vectors = word_vectors h q in
    let size : ℕ = sheet_size f.dim in
    let x : List ℕ = sheet_of f (at table) p in
    let y : List ℕ = sheet_of f (at table) r in
    let made_long : long_fault 1 made ≡ None = long_passes 1 made begun.shift_fits.0 in
    let made_digits : digits_fault made ≡ None = digits_pass made begun.shift_fits.1 in
    let one_long : long_fault size x ≡ None = long_passes size x (answered_fit f (at table) p (zero_sheet f)).0 in
    let two_long : long_fault size y ≡ None = long_passes size y (answered_fit f (at table) r (zero_sheet f)).0 in
    let read : call_outcome h q t made x y row ≡ unless (long_fault 1 row) (Ok (at table t)) =
    rw (begun.words, made_long, one_long, two_long, begun.below, made_digits, nothing_after (long_fault 1 row), begun.reads table digits) refl in
    let rows : call_outcome h q t made one two row ≡ call_outcome h q t made x y row = λ i. call_outcome h q t made (one_is i) (two_is i) row in
    gives (long_fault 1 row) (λ x. (status ≡ 0) × (written ≡ x ∷ [])) (λ x. (status ≡ number_of x.cause) × (written ≡ row)) (rw (rows ∙ read) at promise)
  where
    gives : (o : Option Fault) (P : ℕ → Type 0) (Q : Fault → Type 0) → MatchResult (unless o (Ok (at table t))) P Q → MatchOption o (P (at table t)) Q
    gives None P Q given = given
    gives (Some fault) P Q given = given
