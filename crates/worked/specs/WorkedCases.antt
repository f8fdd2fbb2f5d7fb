-- Worked cases of the definitions, by their numbers: those of families, and those of the scheme.
use Rattle.std.specs.Prelude.{◌≡◌, ℕ, List, [], ◌∷◌, ◌++◌, None, Some, Ok, Err}
use Rattle.faults.specs.declared.Layer.TheVariants.{Session as SessionLayer}
use Rattle.faults.specs.Faults.{length_fault, digit_fault, size_fault, position_fault, spent_fault, at_odds_fault}
use Rattle.digits.specs.Elements.{zero_element, power, scaled, turned}
use Rattle.digits.specs.Ring.{one_element}
use Rattle.words.specs.FamilyCases.{smallest, FamilyCases}
use Rattle.scheme.specs.Queries.{second_query, shift}
use Rattle.scheme.specs.Recovery.{D, weighed, sheets_weighed, entry, read_entry}
use Rattle.scheme.specs.Sessions.{opened, opening_fault, request_fault, outcome}
use Rattle.scheme.specs.Runs.{Run, ready}
use Rattle.worked.specs.LawCases.{LawCases}
use Rattle.worked.specs.WorkedSession.{tape, first_sheet, second_sheet, whole_tape, used_up, lone_value, no_value, short_row, other_short_row, spoilt_row, other_spoilt_row, calls, shown}

-- C1 + l C2 + g^l C3 + l g^l C4, what the weights come to where the product of u(i) and v(t) is l
abbrev pub weights_at : ℕ → List ℕ
weights_at l = weighed one_element (scaled l one_element) (power 1 l) (scaled l (power 1 l))

-- What a session of this family refuses, in order: in each line what comes before is in order, and all that comes after is not.
pub record Refusals : Type 0 where
  pub opening : (opening_fault (3 ∷ 6 ∷ 7 ∷ []) ≡ Some (digit_fault 1)) × (opening_fault tape ≡ None)
  -- a request: the family's count and dimension, the lengths of both rows, the position, the digits left
  pub count : request_fault 3 4 0 smallest 9 1 2 ≡ Some (size_fault SessionLayer 2)
  pub dimension : request_fault 2 4 0 smallest 9 1 2 ≡ Some (size_fault SessionLayer 3)
  pub first_row : request_fault 2 3 0 smallest 9 1 2 ≡ Some (length_fault 1)
  pub second_row : request_fault 2 3 0 smallest 9 3 2 ≡ Some (length_fault 2)
  pub position : request_fault 2 3 0 smallest 2 3 3 ≡ Some (position_fault SessionLayer 2)
  pub spent : request_fault 2 3 2 smallest 1 3 3 ≡ Some (spent_fault 2)
  pub nothing : request_fault 2 3 3 smallest 1 3 3 ≡ None
  -- a recovery: count and dimension, the lengths of both sheets, the digits of the first, then of the second, and the entry
  pub its_count : outcome 3 4 smallest 1 0 short_row other_short_row ≡ Err (size_fault SessionLayer 2)
  pub its_dimension : outcome 2 4 smallest 1 0 short_row other_short_row ≡ Err (size_fault SessionLayer 3)
  pub first_length : outcome 2 3 smallest 1 0 short_row other_short_row ≡ Err (length_fault 1)
  pub second_length : outcome 2 3 smallest 1 0 spoilt_row other_short_row ≡ Err (length_fault 2)
  pub first_digit : outcome 2 3 smallest 1 0 spoilt_row other_spoilt_row ≡ Err (digit_fault 7)
  pub second_digit : outcome 2 3 smallest 1 0 lone_value other_spoilt_row ≡ Err (digit_fault 0)
  pub its_entry : outcome 2 3 smallest 1 0 lone_value no_value ≡ Err (at_odds_fault 1)

pub record WorkedCases : Type 0 where
  pub families : FamilyCases
  -- the weights come to D where l is 0, to nothing where it is 1, 3 or 4, and to something where it is 2
  pub constants : (weights_at 0 ≡ D) × (weights_at 1 ≡ zero_element) × (weights_at 2 ≡ 4 ∷ 5 ∷ 0 ∷ 5 ∷ 4 ∷ 0 ∷ [])
      × (weights_at 3 ≡ zero_element) × (weights_at 4 ≡ zero_element)
  -- the lookup: its second query (the first is the tape), the first sheet, the shift, W, and the entry
  pub query : second_query smallest 1 tape ≡ 4 ∷ 1 ∷ 3 ∷ []
  pub first_answer : first_sheet ≡
      (0 ∷ 5 ∷ 0 ∷ 0 ∷ 2 ∷ 0 ∷ []) ++ (0 ∷ 5 ∷ 0 ∷ 0 ∷ 2 ∷ 0 ∷ []) ++ (0 ∷ 0 ∷ 0 ∷ 0 ∷ 2 ∷ 0 ∷ []) ++ (0 ∷ 5 ∷ 0 ∷ 0 ∷ 0 ∷ 0 ∷ [])
  pub shifted : shift smallest 1 tape ≡ 1
  pub comes_to : sheets_weighed smallest 1 first_sheet second_sheet ≡ 3 ∷ 0 ∷ 4 ∷ 0 ∷ 3 ∷ 2 ∷ []
  pub reads : outcome 2 3 smallest 1 1 first_sheet second_sheet ≡ Ok 5
  -- A session in which that lookup is requested and read; another is requested and abandoned; a third is requested with just
  -- as many tape digits left as it takes, and its sheets are at odds; and two requests are refused, for a position and for
  -- want of digits.
  pub run : Run (ready (opened smallest whole_tape)) calls shown (ready used_up)
  -- what the law of all runs speaks of, at that session
  pub law : LawCases
  -- to the second host the lookup looks as one of position 0 does with another tape
  pub looks_alike : second_query smallest 0 (3 ∷ 2 ∷ 3 ∷ []) ≡ second_query smallest 1 tape
  -- W of two sheets at odds, and that it has no entry: it would be 5, and 5 D is something else
  pub at_odds : sheets_weighed smallest 1 lone_value no_value ≡ 0 ∷ 1 ∷ 0 ∷ 0 ∷ 2 ∷ 3 ∷ []
  pub no_entry : (read_entry (turned 0 (0 ∷ 1 ∷ 0 ∷ 0 ∷ 2 ∷ 3 ∷ [])) ≡ None) × (entry (0 ∷ 1 ∷ 0 ∷ 0 ∷ 2 ∷ 3 ∷ []) ≡ 5)
      × (scaled 5 D ≡ 0 ∷ 4 ∷ 0 ∷ 3 ∷ 2 ∷ 3 ∷ [])
  -- what a session refuses, those two sheets among it
  pub refusals : Refusals
