-- What a request from C began that was taken: rows fit for what comes after, and, by the law, the table's entry in the end.
use Rattle.std.proofs.Common.{◌≡◌, ℕ, ◌*◌, List, [], ◌∷◌, length, None, Ok, refl, sym, subst}
use Rattle.faults.specs.declared.Layer.TheVariants.{Family, Session as SessionLayer}
use Rattle.digits.specs.Rows.{at, Digits}
use Rattle.digits.specs.Refusals.{limit_fault, below_fault}
use Rattle.digits.specs.Sums.{total}
use Rattle.digits.proofs.DigitRows.{remainders}
use Rattle.digits.proofs.Passing.{or_else_none}
use Rattle.digits.proofs.RowLaws.{limit_fit}
use Rattle.family.specs.Vectors.{Vectors, MatchingFamily}
use Rattle.scheme.specs.Answers.{Query, answered, sheet_of}
use Rattle.scheme.specs.Law.{Recovers, here}
use Rattle.scheme.specs.Queries.{second_query}
use Rattle.scheme.specs.Runs.{ready, waiting, Step, none, more, request, recover, recovers, asked, recovered}
use Rattle.scheme.specs.Sessions.{opened, digits_left, next_digits, after_request, outcome}
use Rattle.scheme.proofs.FitRows.{first_fit, second_fit}
use Rattle.scheme.proofs.Taken.{taken}
use Rattle.words.specs.Words.{word_vectors, words_fault}
use Rattle.words.specs.WordFamily.{words_family}
use Rattle.bootloader.specs.Calls.{asked_fault, shift_row}
use Rattle.bootloader.proofs.Requests.{AskedFit, tests}

-- a family of words that is not refused is a matching family
matches : (h q : ℕ) → words_fault h q ≡ None → MatchingFamily (word_vectors h q)
matches h q passed =
    let (letters, alphabet) = or_else_none (limit_fault Family 1 5 h) (limit_fault Family 2 16 q) passed in
    let short = limit_fit Family 1 5 h letters in
    let some = limit_fit Family 2 16 q alphabet in
    words_family h q short.1 some.0 some.1

-- of the queries p and r, the shift made, and every table
pub record Begun (h q t : ℕ) (tape first second turn p r made : List ℕ) : Type 0 where
  pub passes : asked_fault h q t tape first second turn ≡ None
  pub words : words_fault h q ≡ None
  pub below : below_fault SessionLayer (word_vectors h q).count t ≡ None
  pub first_fits : Query (word_vectors h q) p
  pub second_fits : Query (word_vectors h q) r
  pub shift_fits : (length made ≡ 1) × Digits made
  pub reads : (table : List ℕ) → Digits table → outcome (word_vectors h q).count (word_vectors h q).dim (word_vectors h q) t (at made 0)
      (sheet_of (word_vectors h q) (at table) p) (sheet_of (word_vectors h q) (at table) r) ≡ Ok (at table t)

pub begun : (h q t : ℕ) (tape first second turn p r made : List ℕ) → asked_fault h q t tape first second turn ≡ None →
    p ≡ next_digits (opened (word_vectors h q) tape) → r ≡ second_query (word_vectors h q) t (next_digits (opened (word_vectors h q) tape)) →
    made ≡ shift_row (word_vectors h q) t (next_digits (opened (word_vectors h q) tape)) → Recovers (word_vectors h q) →
    Step (ready (opened (word_vectors h q) tape)) (request (word_vectors h q) t (word_vectors h q).dim (word_vectors h q).dim) (asked p r)
    (waiting (after_request (opened (word_vectors h q) tape)) t (at made 0)) →
    Begun h q t tape first second turn p r made
begun h q t tape first second turn p r made passes p_is r_is made_is law asks =
    let f : Vectors = word_vectors h q in
    let z : List ℕ = next_digits (opened f tape) in
    let rows : AskedFit h q t tape first second turn = tests h q t tape first second turn passes in
    let fits = taken f.count f.dim (digits_left (opened f tape)) f t (length first) (length second) rows.takes in
    record {
      passes = passes;
      words = rows.words;
      below = rows.below;
      first_fits = subst (Query f) (sym p_is) (first_fit f (opened f tape) rows.digits refl fits.room);
      second_fits = subst (Query f) (sym r_is) (second_fit f t z);
      shift_fits = subst (λ xs. (length xs ≡ 1) × Digits xs) (sym made_is) (remainders 1 (λ i. total f.dim (λ c. f.u t c * at z c)));
      reads = λ table digits.
          let a : ℕ → ℕ = at table in
          let one : List ℕ = sheet_of f a p in
          let two : List ℕ = sheet_of f a r in
          let read = outcome f.count f.dim f t (at made 0) one two in
          let reads = recovers (after_request (opened f tape)) t (at made 0) f one two in
          let shown : recovered read ≡ recovered (Ok (a t)) =
          law tape rows.digits (request f t f.dim f.dim ∷ recover f one two ∷ []) (asked p r ∷ recovered read ∷ []) _ (more asks (more reads none))
          f (matches h q rows.words) t f.dim f.dim p r one two (recovered read) here a (λ i h. digits i) (answered f a) (answered f a)
          (λ x y h k. refl) (λ x y h k. refl) refl refl in
          cc;
    }
