-- When a book's layout is in order: limits, counts, length and digits.
use Rattle.std.specs.Prelude.{◌≡◌, ℕ, ◌+◌, ◌*◌, ◌≤◌, List, length, take, drop, None, Option}
use Rattle.std.proofs.Common.{sym, ap, ap₂, subst, ◌∙◌, arith}
use Rattle.std.proofs.lemmas.List.{length-drop, length-take-le, drop-drop}
use Rattle.std.proofs.lemmas.Bool.{eqb-true, eq-eqb, le-leb, and_from, cond-true}
use Rattle.faults.specs.declared.Layer.TheVariants.{Family}
use Rattle.faults.specs.declared.Fault.{Fault}
use Rattle.digits.specs.Refusals.{or_else, limit_fault}
use Rattle.digits.specs.Rows.{Digits, first_above}
use Rattle.digits.proofs.Passing.{or_else_none, none_or_else, passed}
use Rattle.digits.proofs.RowLaws.{above_none, limit_fit}
use Rattle.digits.proofs.DigitRows.{digits_pass}
use Rattle.books.specs.Layout.{short_fault, limited_fault, dimension_fault, count_fault, second_fault, section_fault, layout_fault}
use Rattle.books.specs.Numbers.{big_endian, dimension_of, count_of, size_of, second_of}
use Rattle.books.specs.Parts.{enough, long_enough, all_digits}

-- both numbers lie within their limits, the count stands again before the second section, each section has the digits of so many
-- vectors, and nothing follows
pub record InOrder (bs : List ℕ) : Type 0 where
  pub wide : 1 ≤ dimension_of bs
  pub narrow : dimension_of bs ≤ 4096
  pub some : 1 ≤ count_of bs
  pub few : count_of bs ≤ 1024
  pub again : big_endian 4 (drop (6 + size_of bs) bs) ≡ count_of bs
  pub long : length bs ≡ second_of bs + size_of bs
  pub u_digits : Digits (take (size_of bs) (drop 6 bs))
  pub v_digits : Digits (take (size_of bs) (drop (second_of bs) bs))

section_digits : (len whole : ℕ) (rest : List ℕ) → section_fault len whole rest ≡ None → (len ≤ length rest) × Digits (take len rest)
section_digits len whole rest e =
    let both = or_else_none _ _ e in
    let h = enough len whole rest both.0 in
    (h, above_none (take len rest) (eqb-true _ len (passed _ _ both.1) ∙ sym (length-take-le len rest h)))

read_limits : (most found : ℕ) (short : Option Fault) → or_else short (limit_fault Family 1 most found) ≡ None → (1 ≤ found) × (found ≤ most)
read_limits most found short e = limit_fit Family 1 most found (or_else_none short (limit_fault Family 1 most found) e).1

pub in_order : (bs : List ℕ) → layout_fault bs ≡ None → InOrder bs
unfolding layout_fault
in_order bs e =
    let one = or_else_none (dimension_fault bs) _ e in
    let two = or_else_none (count_fault (length bs) (drop 2 bs)) _ one.1 in
    let three = or_else_none (section_fault (size_of bs) (length bs) (drop 6 bs)) _ two.1 in
    let four = or_else_none (second_fault (count_of bs) (length bs) (drop (size_of bs) (drop 6 bs))) _ three.1 in
    let five = or_else_none (section_fault (size_of bs) (length bs) (drop (size_of bs + 4) (drop 6 bs))) _ four.1 in
    let dim = read_limits 4096 (dimension_of bs) (short_fault 2 (length bs) bs) one.0 in
    let count = read_limits 1024 (count_of bs) (short_fault 4 (length bs) (drop 2 bs)) two.0 in
    let there : drop (size_of bs + 4) (drop 6 bs) ≡ drop (second_of bs) bs = drop-drop (size_of bs + 4) 6 bs ∙ ap (λ n. drop n bs) (omega arith) in
    let v = section_digits (size_of bs) (length bs) (drop (size_of bs + 4) (drop 6 bs)) five.0 in
    let room = enough 4 (length bs) (drop (size_of bs) (drop 6 bs)) (or_else_none _ _ four.0).0 in
    let none = eqb-true (length (drop (size_of bs + 4 + size_of bs) (drop 6 bs))) 0 (passed _ _ five.1) in
    record {
      wide = dim.0;
      narrow = dim.1;
      some = count.0;
      few = count.1;
      again = ap (big_endian 4) (sym (drop-drop (size_of bs) 6 bs)) ∙ eqb-true _ (count_of bs) (passed _ _ (or_else_none _ _ four.0).1);
      long = omega (arith, v.0, room, none, length-drop 6 bs, length-drop (size_of bs) (drop 6 bs), length-drop (size_of bs + 4) (drop 6 bs), length-drop (size_of bs + 4 + size_of bs) (drop 6 bs));
      u_digits = (section_digits (size_of bs) (length bs) (drop 6 bs) three.0).1;
      v_digits = subst (λ r. Digits (take (size_of bs) r)) there v.1;
    }

-- a number within its limits and a section of digits are not refused
limit_kept : (len most whole : ℕ) (rest : List ℕ) → len ≤ length rest → 1 ≤ big_endian len rest → big_endian len rest ≤ most →
    limited_fault len most whole rest ≡ None
limit_kept len most whole rest room low high =
    none_or_else (short_fault len whole rest) _ (long_enough len whole rest room)
    (cond-true _ None _ (and_from _ _ (le-leb 1 _ low) (le-leb _ most high)))

section_kept : (len whole : ℕ) (rest : List ℕ) → len ≤ length rest → Digits (take len rest) → section_fault len whole rest ≡ None
section_kept len whole rest room digits =
    let none : first_above (take len rest) ≡ length (take len rest) =
    eqb-true (first_above (take len rest)) (length (take len rest)) (passed _ _ (digits_pass (take len rest) digits)) in
    all_digits len whole rest room (omega (arith, none, length-take-le len rest room))

-- and so nothing is amiss with a layout in order
pub ordered : (bs : List ℕ) → InOrder bs → layout_fault bs ≡ None
unfolding layout_fault
ordered bs o =
    let size : ℕ = size_of bs in
    let all : length bs ≡ 10 + size + size = o.long in
    let second : drop (size + 4) (drop 6 bs) ≡ drop (second_of bs) bs = drop-drop (size + 4) 6 bs ∙ ap (λ n. drop n bs) (omega arith) in
    let again : big_endian 4 (drop size (drop 6 bs)) ≡ count_of bs = ap (big_endian 4) (drop-drop size 6 bs) ∙ o.again in
    none_or_else (dimension_fault bs) _ (limit_kept 2 4096 (length bs) bs (omega (arith, all)) o.wide o.narrow)
    (none_or_else (count_fault (length bs) (drop 2 bs)) _ (limit_kept 4 1024 (length bs) (drop 2 bs) (omega (arith, all, length-drop 2 bs)) o.some o.few)
    (none_or_else (section_fault size (length bs) (drop 6 bs)) _ (section_kept size (length bs) (drop 6 bs) (omega (arith, all, length-drop 6 bs)) o.u_digits)
    (none_or_else (second_fault (count_of bs) (length bs) (drop size (drop 6 bs))) _
    (none_or_else (short_fault 4 (length bs) (drop size (drop 6 bs))) _
    (long_enough 4 (length bs) (drop size (drop 6 bs)) (omega (arith, all, length-drop 6 bs, length-drop size (drop 6 bs))))
    (cond-true _ None _ (eq-eqb _ (count_of bs) again)))
    (none_or_else (section_fault size (length bs) (drop (size + 4) (drop 6 bs))) _
    (section_kept size (length bs) (drop (size + 4) (drop 6 bs)) (omega (arith, all, length-drop 6 bs, length-drop (size + 4) (drop 6 bs)))
    (subst (λ r. Digits (take size r)) (sym second) o.v_digits))
    (cond-true _ None _ (eq-eqb (length (drop (size + 4 + size) (drop 6 bs))) 0 (omega (arith, all, length-drop 6 bs, length-drop (size + 4 + size) (drop 6 bs)))))))))

-- the length by the numbers that the code holds
pub long_as : (bs : List ℕ) (n k : ℕ) → InOrder bs → n ≡ count_of bs → k ≡ dimension_of bs → length bs ≡ 10 + n * k + n * k
long_as bs n k order counted wide = order.long ∙ ap₂ (λ a b. 10 + a * b + a * b) (sym counted) (sym wide)
