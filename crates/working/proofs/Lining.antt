-- Rows and sheets line by line.
use Rattle.std.proofs.Common.{◌≡◌, ℕ, suc, ◌+◌, ◌<◌, min, List, [], ◌++◌, length, take, drop, refl, sym, ap, ap₂, ◌∙◌, inl, inr, arith, length-append, append-nil}
use Rattle.std.proofs.lemmas.Bool.{cases_lt}
use Rattle.std.proofs.lemmas.List.{nil_from_length, take_all, take_at, drop_all, drop_at}
use Rattle.scheme.specs.Recovery.{element_of}
use Rattle.working.specs.Layout.{row_text, lines_text, line_count, block_text, element_text, elements_text}

front : (line rest all : List ℕ) → all ≡ line ++ rest → length line ≡ min 30 (length all) → take 30 all ≡ line
front line rest all e long =
    let sum = ap length e ∙ length-append line rest in
    elim (cases_lt (length all) 30) [
      | inl short ↦
          let none : rest ≡ [] = nil_from_length rest (omega arith) in
          take_all 30 all (omega arith) ∙ e ∙ ap (λ r. line ++ r) none ∙ append-nil line
      | inr more ↦ ap (take 30) e ∙ take_at line rest 30 (omega arith)
    ]

back : (line rest all : List ℕ) → all ≡ line ++ rest → length line ≡ min 30 (length all) → drop 30 all ≡ rest
back line rest all e long =
    let sum = ap length e ∙ length-append line rest in
    elim (cases_lt (length all) 30) [
      | inl short ↦ drop_all 30 all (omega arith) ∙ sym (nil_from_length rest (omega arith))
      | inr more ↦ ap (drop 30) e ∙ drop_at line rest 30 (omega arith)
    ]

-- the first line of what is left, and the lines after it
pub line_more : (name line rest all : List ℕ) → all ≡ line ++ rest → length line ≡ min 30 (length all) → 0 < length all →
    row_text name line ++ lines_text [] (line_count rest) rest ≡ lines_text name (line_count all) all
unfolding lines_text
line_more name line rest all e long some =
    let sum = ap length e ∙ length-append line rest in
    let count : line_count all ≡ suc (line_count rest) = omega arith in
    ap₂ (λ a b. row_text name a ++ lines_text [] (line_count rest) b)
    (sym (front line rest all e long)) (sym (back line rest all e long))
    ∙ ap (λ n. lines_text name n all) (sym count)

-- before the first line, all lines are left; after the last, none
pub all_left : (name digits rest : List ℕ) → rest ≡ digits → lines_text name (line_count rest) rest ≡ block_text name digits
unfolding block_text
all_left name digits rest e = ap (λ l. lines_text name (line_count l) l) e

pub none_left : (name done rest text : List ℕ) → rest ≡ [] → done ++ lines_text name (line_count rest) rest ≡ text → done ≡ text
unfolding lines_text
none_left name done rest text e all = sym (append-nil done) ∙ (rw e at all)

-- the elements of a sheet, one by one
pub no_element : (sheet : List ℕ) → [] ≡ elements_text sheet 0
unfolding elements_text
no_element sheet = refl

pub element_more : (sheet : List ℕ) (c : ℕ) →
    elements_text sheet c ++ element_text c (element_of sheet c) ≡ elements_text sheet (c + 1)
unfolding elements_text
element_more sheet c = let e : c + 1 ≡ suc c = omega arith in rw e
