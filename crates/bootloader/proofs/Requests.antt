-- A request from C of which nothing is amiss is one that a session takes which is opened on its tape, and writes what that one writes.
use Rattle.std.proofs.Common.{◌≡◌, ℕ, ◌+◌, ◌%◌, List, [], ◌∷◌, length, take, drop, None, slice_set, refl, sym, ap, ap₂, ◌∙◌, length-drop, arith}
use Rattle.std.proofs.Math.Nat.{sub-zero}
use Rattle.faults.specs.declared.Layer.TheVariants.{Session as SessionLayer}
use Rattle.digits.specs.Rows.{at, row, Digits}
use Rattle.digits.specs.Refusals.{long_fault, below_fault, digits_fault}
use Rattle.digits.proofs.Passing.{or_else_none, none_or_else}
use Rattle.family.specs.Vectors.{Vectors}
use Rattle.scheme.specs.Queries.{second_query, shift}
use Rattle.scheme.specs.Runs.{ready, waiting, request, asked, Step}
use Rattle.scheme.specs.Sessions.{Session, opened, after_request, digits_left, next_digits, tape_fault, request_fault}
use Rattle.scheme.proofs.Steps.{stepping}
use Rattle.scheme.proofs.Taken.{widths}
use Rattle.session.proofs.Sheets.{own_family}
use Rattle.session.proofs.Stepping.{asks_first, asks_second, step_taken}
use Rattle.words.specs.Words.{word_dim, word_vectors, words_fault}
use Rattle.bootloader.specs.Calls.{asked_fault, shift_row}

-- what the tests of a request say that was taken: so a session takes it that is opened on its tape
pub record AskedFit (h q t : ℕ) (tape first second turn : List ℕ) : Type 0 where
  pub words : words_fault h q ≡ None
  pub below : below_fault SessionLayer (word_vectors h q).count t ≡ None
  pub digits : Digits tape
  pub takes : request_fault (word_vectors h q).count (word_vectors h q).dim (digits_left (opened (word_vectors h q) tape)) (word_vectors h q) t
      (length first) (length second) ≡ None

pub tests : (h q t : ℕ) (tape first second turn : List ℕ) → asked_fault h q t tape first second turn ≡ None → AskedFit h q t tape first second turn
tests h q t tape first second turn none =
    let f : Vectors = word_vectors h q in
    let (words, rows) = or_else_none (words_fault h q) _ none in
    let (first_long, more) = or_else_none (long_fault f.dim first) _ rows in
    let (second_long, later) = or_else_none (long_fault f.dim second) _ more in
    let (turn_long, last) = or_else_none (long_fault 1 turn) _ later in
    let (below, tape_passes) = or_else_none (below_fault SessionLayer f.count t) _ last in
    let (room, digits) = or_else_none (tape_fault f.dim (length tape)) (digits_fault tape) tape_passes in
    let room_left : tape_fault f.dim (digits_left (opened f tape)) ≡ None = ap (tape_fault f.dim) (sub-zero (length tape)) ∙ room in
    record {
      words = words;
      below = below;
      digits = stepping.opens tape digits;
      takes = none_or_else _ _ (own_family f) (none_or_else _ _ first_long (none_or_else _ _ second_long (none_or_else _ _ below room_left)));
    }

-- a row of one byte, written
pub one_written : (n : ℕ) (xs : List ℕ) → length xs ≡ 1 → slice_set xs 0 n ≡ n ∷ []
one_written n [] e = absurd (omega arith)
one_written n (x ∷ []) e = refl
one_written n (x ∷ y ∷ ys) e = absurd (omega arith)

-- what the code writes with the tape's digits for a request
pub writes : (h q t made : ℕ) (f : Vectors) (tape digits first second turn p r : List ℕ) → f ≡ word_vectors h q → length turn ≡ 1 →
    digits ≡ take (word_dim h q) tape → p ≡ row (length first) (at digits) → r ≡ row (length second) (λ c. (at digits c + f.v t c) % 6) →
    made ≡ shift f t digits → asked_fault h q t tape first second turn ≡ None →
    (asked_fault h q t tape first second turn ≡ None) × (p ≡ next_digits (opened (word_vectors h q) tape))
    × (r ≡ second_query (word_vectors h q) t (next_digits (opened (word_vectors h q) tape)))
    × (slice_set turn 0 made ≡ shift_row (word_vectors h q) t (next_digits (opened (word_vectors h q) tape)))
writes h q t made f tape digits first second turn p r same one taken p_is r_is made_is none =
    let s : Session = opened (word_vectors h q) tape in
    let z : digits ≡ next_digits s = taken in
    let takes = (tests h q t tape first second turn none).takes in (
      none,
      p_is ∙ asks_first s (word_vectors h q) t _ (length second) _ takes z,
      r_is ∙ ap (λ x. row (length second) (λ c. (at digits c + x.v t c) % 6)) same
          ∙ asks_second s (word_vectors h q) t (length first) _ _ takes z,
      one_written made turn one ∙ ap (λ n. n ∷ []) (made_is ∙ ap₂ (λ x y. shift x t y) same z),
    )

-- So the request is a step of a run, of any session on a family of this count and dimension of whose tape this is what is left.
pub step_asked : (h q t : ℕ) (tape first second turn p r made : List ℕ) → asked_fault h q t tape first second turn ≡ None →
    p ≡ next_digits (opened (word_vectors h q) tape) → r ≡ second_query (word_vectors h q) t (next_digits (opened (word_vectors h q) tape)) →
    made ≡ shift_row (word_vectors h q) t (next_digits (opened (word_vectors h q) tape)) →
    (s : Session) → s.count ≡ (word_vectors h q).count → s.dim ≡ (word_vectors h q).dim → drop s.place s.tape ≡ tape →
    Step (ready s) (request (word_vectors h q) t (word_vectors h q).dim (word_vectors h q).dim) (asked p r)
    (waiting (after_request s) t (at made 0))
step_asked h q t tape first second turn p r made none p_is r_is made_is s count dim rest =
    let f : Vectors = word_vectors h q in
    let takes = (tests h q t tape first second turn none).takes in
    let (first_long, second_long) = widths f.count f.dim (digits_left (opened f tape)) f t (length first) (length second) takes in
    let left : digits_left s ≡ digits_left (opened f tape) = omega (arith, length-drop s.place s.tape, ap length rest) in
    let same : request_fault s.count s.dim (digits_left s) f t f.dim f.dim
    ≡ request_fault f.count f.dim (digits_left (opened f tape)) f t (length first) (length second) =
    λ i. request_fault (count i) (dim i) (left i) f t (sym first_long i) (sym second_long i) in
    let z : next_digits (opened f tape) ≡ next_digits s = sym (ap₂ take dim rest) in
    step_taken s f t f.dim f.dim p r _ (same ∙ takes) (p_is ∙ z) (r_is ∙ ap (second_query f t) z)
    (ap (λ xs. waiting (after_request s) t (at xs 0)) made_is ∙ ap (λ x. waiting (after_request s) t (shift f t x)) z)
