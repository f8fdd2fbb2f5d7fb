-- The worked session: a lookup by its numbers, and the session that it is the first of.
use Rattle.std.specs.Prelude.{ℕ, List, [], ◌∷◌, ◌++◌, Ok, Err, slice_set}
use Rattle.faults.specs.declared.Layer.TheVariants.{Session as SessionLayer}
use Rattle.faults.specs.Faults.{position_fault, spent_fault, at_odds_fault}
use Rattle.digits.specs.Rows.{at}
use Rattle.digits.specs.Elements.{zero_element}
use Rattle.words.specs.FamilyCases.{smallest}
use Rattle.scheme.specs.Answers.{zero_sheet, sheet_of}
use Rattle.scheme.specs.Queries.{second_query}
use Rattle.scheme.specs.Runs.{Call, Event, request, recover, abandon, asked, declined, recovered, abandoned}
use Rattle.scheme.specs.Sessions.{Session}

-- A lookup in the table 2, 5, for position 1, with the tape 3, 1, 4: the sheets of the two queries. The family is that of
-- words of one letter from an alphabet of two, with two positions and three coordinates.
abbrev pub table : ℕ → ℕ
table = at (2 ∷ 5 ∷ [])

abbrev pub tape : List ℕ
tape = 3 ∷ 1 ∷ 4 ∷ []

abbrev pub first_sheet : List ℕ
first_sheet = sheet_of smallest table tape

abbrev pub second_sheet : List ℕ
second_sheet = sheet_of smallest table (second_query smallest 1 tape)

-- a tape for three requests, and what a session on it keeps once it is used up: one lookup was read, and two ended unread
abbrev pub whole_tape : List ℕ
whole_tape = 3 ∷ 1 ∷ 4 ∷ 2 ∷ 0 ∷ 5 ∷ 1 ∷ 4 ∷ 5 ∷ []

abbrev pub used_up : Session
used_up = record { count = 2; dim = 3; tape = whole_tape; place = 9; taken = 3; read = 1; unread = 2 }

-- Two sheets at odds: one has the value 1 and is 0 elsewhere, the other is 0 throughout.
abbrev pub lone_value : List ℕ
lone_value = (1 ∷ 0 ∷ 0 ∷ 0 ∷ 0 ∷ 0 ∷ []) ++ zero_element ++ zero_element ++ zero_element

abbrev pub no_value : List ℕ
no_value = zero_sheet smallest

-- rows that are no sheets: two that are too short, and two that hold a byte above 5, at the places 7 and 0
abbrev pub short_row : List ℕ
short_row = 6 ∷ []

abbrev pub other_short_row : List ℕ
other_short_row = 7 ∷ 8 ∷ []

abbrev pub spoilt_row : List ℕ
spoilt_row = slice_set no_value 7 6

abbrev pub other_spoilt_row : List ℕ
other_spoilt_row = slice_set no_value 0 9

-- the calls of that session, and what they showed
abbrev pub calls : List Call
calls =
    request smallest 1 3 3 ∷ recover smallest first_sheet second_sheet ∷ request smallest 0 3 3 ∷ abandon
    ∷ request smallest 1 3 3 ∷ recover smallest lone_value no_value ∷ request smallest 2 3 3 ∷ request smallest 1 3 3 ∷ []

abbrev pub shown : List Event
shown =
    asked tape (4 ∷ 1 ∷ 3 ∷ []) ∷ recovered (Ok 5) ∷ asked (2 ∷ 0 ∷ 5 ∷ []) (3 ∷ 5 ∷ 5 ∷ []) ∷ abandoned
    ∷ asked (1 ∷ 4 ∷ 5 ∷ []) (2 ∷ 4 ∷ 4 ∷ []) ∷ recovered (Err (at_odds_fault 1)) ∷ declined (position_fault SessionLayer 2)
    ∷ declined (spent_fault 0) ∷ []
