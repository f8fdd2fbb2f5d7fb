-- A request is taken exactly where it fits, and an entry is read exactly where it can be.
use Rattle.std.proofs.Common.{◌≡◌, ℕ, ◌+◌, ◌*◌, ◌%◌, ◌<◌, true, eqb, eqb-true, eq-eqb, List, length, Some, None, Ok, Err, Option, Result, sym, refl, ap, subst, lt-ltb, ◌∙◌, inl, inr, arith}
use Rattle.std.proofs.lemmas.Bool.{and_parts, cases_Bool, cond-true, cond-false, le-leb}
use Rattle.faults.specs.declared.Fault.{Fault}
use Rattle.faults.specs.declared.Layer.TheVariants.{Session as SessionLayer}
use Rattle.faults.specs.Faults.{at_odds_fault}
use Rattle.digits.specs.Elements.{scaled, same_element}
use Rattle.digits.specs.Refusals.{equal_fault, width_fault, long_fault, digits_fault, below_fault}
use Rattle.digits.specs.Rows.{at}
use Rattle.digits.proofs.DigitRows.{digits_from}
use Rattle.digits.proofs.Passing.{some≢none, or_else_none, none_or_else, equal_passes, long_is}
use Rattle.digits.proofs.RowLaws.{length-row, six_of}
use Rattle.family.specs.Vectors.{Vectors}
use Rattle.scheme.specs.Answers.{Sheet, sheet_size}
use Rattle.scheme.specs.Recovery.{D, entry, agrees, read_entry, found, sheets_weighed}
use Rattle.scheme.specs.Runs.{State, ready, waiting, request, recover, asked, recovered, Step, takes, recovers}
use Rattle.scheme.specs.Sessions.{Session, digits_left, family_fault, tape_fault, request_fault, sheets_fault, read_or_odds, unless, outcome, after_recovery}
use Rattle.scheme.specs.Steps.{Takeable, Readable}
use Rattle.scheme.proofs.Outcomes.{reads}
use Rattle.scheme.proofs.Taken.{Taken, taken, widths, family_is}
use Rattle.scheme.proofs.TwoSheets.{read_scaled}

-- a row as long as a query is not refused for its length
width_passes : (n found : ℕ) → found ≡ n → width_fault n found ≡ None
width_passes n found e = cond-true (eqb found n) None _ (eq-eqb found n e)

-- nor is a family of the session's count and dimension
family_passes : (n k : ℕ) (f : Vectors) → f.count ≡ n → f.dim ≡ k → family_fault n k f ≡ None
family_passes n k f count dim =
    none_or_else (equal_fault SessionLayer n f.count) (equal_fault SessionLayer k f.dim)
    (equal_passes SessionLayer n f.count count) (equal_passes SessionLayer k f.dim dim)

pub takes_all : (s : Session) (f : Vectors) (t l m : ℕ) → Takeable s f t l m →
    (p : List ℕ) × (q : List ℕ) × (n : State) × Step (ready s) (request f t l m) (asked p q) n
takes_all s f t l m takeable =
    let k : ℕ = s.dim in
    let passes : request_fault s.count k (digits_left s) f t l m ≡ None =
    none_or_else (family_fault s.count k f) _ (family_passes s.count k f takeable.count_is takeable.dim_is)
    (none_or_else (width_fault k l) _ (width_passes k l takeable.first_long)
    (none_or_else (width_fault k m) _ (width_passes k m takeable.second_long)
    (none_or_else (below_fault SessionLayer s.count t) (tape_fault k (digits_left s))
    (cond-true _ None _ (lt-ltb t s.count takeable.below))
    (cond-true _ None _ (le-leb k (digits_left s) takeable.enough))))) in
    (_, _, _, takes s f t l m passes)

pub takes_no_other : {s : Session} {f : Vectors} {t l m : ℕ} {p q : List ℕ} {n : State} → Step (ready s) (request f t l m) (asked p q) n → Takeable s f t l m
takes_no_other (takes s f t l m passes) =
    let told : Taken s.count s.dim (digits_left s) f t = taken s.count s.dim (digits_left s) f t l m passes in
    let long = widths s.count s.dim (digits_left s) f t l m passes in
    record {
      count_is = (family_is s.count s.dim f told.family_passes).0;
      dim_is = told.dim_is;
      first_long = long.0;
      second_long = long.1;
      below = omega (arith, (family_is s.count s.dim f told.family_passes).0, told.below_count);
      enough = told.room;
    }

pub reads_all : (s : Session) (f : Vectors) (t turn : ℕ) (one two : List ℕ) (e : ℕ) → Readable s f t turn one two e →
    (n : State) × Step (waiting s t turn) (recover f one two) (recovered (Ok e)) n
reads_all s f t turn one two e readable =
    let read : outcome s.count s.dim f t turn one two ≡ Ok e =
    reads f one two readable.first_fits readable.second_fits s.count s.dim t turn e
    (family_passes s.count s.dim f readable.count_is readable.dim_is)
    (ap read_entry readable.comes_to ∙ read_scaled e readable.digit) in
    (_, subst (λ r. Step (waiting s t turn) (recover f one two) (recovered r) (ready (after_recovery r s))) read (recovers s t turn f one two))

err≢ok : (fault : Fault) (e : ℕ) → ◌≡◌ {A = Result ℕ Fault} (Err fault) (Ok e) → ⊥
err≢ok fault e h = let z : ◌≡◌ {A = ℕ} 0 1 = cc in omega arith

-- what an entry says of the checks before it, and of what it is read from
unless_ok : (fault : Option Fault) (r : Result ℕ Fault) (e : ℕ) → unless fault r ≡ Ok e → (fault ≡ None) × (r ≡ Ok e)
unless_ok None r e h = (refl, h)
unless_ok (Some fault) r e h = absurd (err≢ok fault e h)

read_ok : (t : ℕ) (o : Option ℕ) (e : ℕ) → read_or_odds t o ≡ Ok e → o ≡ Some e
read_ok t None e h = absurd (err≢ok (at_odds_fault t) e h)
read_ok t (Some x) e h = let is : x ≡ e = cc h in ap Some is

-- elements that are found to be the same are
same_is : (x y : List ℕ) → length x ≡ 6 → length y ≡ 6 → same_element x y ≡ true → x ≡ y
same_is x y hx hy h =
    let (e0, h1) = and_parts (eqb (at x 0) (at y 0)) _ h in
    let (e1, h2) = and_parts (eqb (at x 1) (at y 1)) _ h1 in
    let (e2, h3) = and_parts (eqb (at x 2) (at y 2)) _ h2 in
    let (e3, h4) = and_parts (eqb (at x 3) (at y 3)) _ h3 in
    let (e4, e5) = and_parts (eqb (at x 4) (at y 4)) (eqb (at x 5) (at y 5)) h4 in
    sym (six_of x hx)
    ∙ rw (
      eqb-true (at x 0) (at y 0) e0,
      eqb-true (at x 1) (at y 1) e1,
      eqb-true (at x 2) (at y 2) e2,
      eqb-true (at x 3) (at y 3) e3,
      eqb-true (at x 4) (at y 4) e4,
      eqb-true (at x 5) (at y 5) e5,
    ) (six_of y hy)

-- an entry is read from that many times D alone
read_is : (x : List ℕ) (e : ℕ) → length x ≡ 6 → read_entry x ≡ Some e → (e < 6) × (x ≡ scaled e D)
read_is x e six h =
    elim (cases_Bool (agrees x)) [
      | inl same ↦
          let is : entry x ≡ e = cc (sym (cond-true (agrees x) (Some (entry x)) None same) ∙ h) in
          (omega (arith, is), same_is x (scaled (entry x) D) six (length-row 6 (λ r. entry x * at D r % 6)) same ∙ ap (λ n. scaled n D) is)
      | inr other ↦ absurd (some≢none e (sym h ∙ cond-false (agrees x) (Some (entry x)) None other))
    ]

-- two sheets that a recovery does not refuse
fit_sheets : (f : Vectors) (one two : List ℕ) → sheets_fault f.dim one two ≡ None → Sheet f one × Sheet f two
fit_sheets f one two h =
    let n : ℕ = sheet_size f.dim in
    let (one_long, rest) = or_else_none (long_fault n one) _ h in
    let (two_long, digits) = or_else_none (long_fault n two) _ rest in
    let (one_digits, two_digits) = or_else_none (digits_fault one) (digits_fault two) digits in
    ((long_is n one one_long, digits_from one one_digits), (long_is n two two_long, digits_from two two_digits))

pub readable_from : (s : Session) (f : Vectors) (t turn : ℕ) (one two : List ℕ) (e : ℕ) → outcome s.count s.dim f t turn one two ≡ Ok e → Readable s f t turn one two e
unfolding outcome
readable_from s f t turn one two e h =
    let x : List ℕ = found f t turn one two in
    let (passes, read) = unless_ok _ (read_or_odds t (read_entry x)) e h in
    let (family, sheets) = or_else_none (family_fault s.count s.dim f) _ passes in
    let is = family_is s.count s.dim f family in
    let fit = fit_sheets f one two (subst (λ k. sheets_fault k one two ≡ None) (sym is.1) sheets) in
    let whole = read_is x e (length-row 6 (λ r. at (sheets_weighed f t one two) ((r + turn) % 6))) (read_ok t (read_entry x) e read) in
    record { count_is = is.0; dim_is = is.1; first_fits = fit.0; second_fits = fit.1; digit = whole.0; comes_to = whole.1 }
