-- Law cases: the law of all runs at the worked session. They show that what the law asks for is met by a session such as this, with
-- lookups after the first, and what it calls a view, a refusal, and lists of calls alike.
use Rattle.std.specs.Prelude.{◌≡◌, ℕ, List, [], ◌∷◌, None, Some, Ok, Err}
use Rattle.faults.specs.declared.Layer.TheVariants.{Session as SessionLayer}
use Rattle.faults.specs.Faults.{position_fault, spent_fault, at_odds_fault}
use Rattle.words.specs.FamilyCases.{smallest}
use Rattle.scheme.specs.Answers.{Table}
use Rattle.scheme.specs.Law.{Follow, first, second, view, refusals, Alike, Explains}
use Rattle.scheme.specs.Runs.{Call, request, recover, abandon, asked, recovered}
use Rattle.worked.specs.WorkedSession.{table, tape, first_sheet, second_sheet, whole_tape, lone_value, no_value, short_row, other_short_row, calls, shown}

-- Calls alike: each request names the other position, but for the one that is refused for its position, and the recoveries are
-- handed other rows.
abbrev pub other_calls : List Call
other_calls =
    request smallest 0 3 3 ∷ recover smallest short_row other_short_row ∷ request smallest 1 3 3 ∷ abandon
    ∷ request smallest 0 3 3 ∷ recover smallest no_value no_value ∷ request smallest 2 3 3 ∷ request smallest 0 3 3 ∷ []

-- the tape that explains with them what the second host was shown
abbrev pub other_tape : List ℕ
other_tape = 3 ∷ 2 ∷ 3 ∷ 2 ∷ 5 ∷ 0 ∷ 1 ∷ 5 ∷ 4 ∷ []

pub record LawCases : Type 0 where
  -- what each host was shown, in order, and what each request was refused for
  pub first_view : view first shown ≡ tape ∷ (2 ∷ 0 ∷ 5 ∷ []) ∷ (1 ∷ 4 ∷ 5 ∷ []) ∷ []
  pub second_view : view second shown ≡ (4 ∷ 1 ∷ 3 ∷ []) ∷ (3 ∷ 5 ∷ 5 ∷ []) ∷ (2 ∷ 4 ∷ 4 ∷ []) ∷ []
  pub refused : refusals shown ≡ None ∷ None ∷ None ∷ Some (position_fault SessionLayer 2) ∷ Some (spent_fault 0) ∷ []
  -- the table is one of digits, and the recoveries, the first and a later one, follow their requests
  pub digits : Table smallest table
  pub first_lookup : Follow calls shown (request smallest 1 3 3) (asked tape (4 ∷ 1 ∷ 3 ∷ [])) (recover smallest first_sheet second_sheet) (recovered (Ok 5))
  pub last_lookup : Follow calls shown (request smallest 1 3 3) (asked (1 ∷ 4 ∷ 5 ∷ []) (2 ∷ 4 ∷ 4 ∷ []))
      (recover smallest lone_value no_value) (recovered (Err (at_odds_fault 1)))
  -- the two lists are alike, and the tape explains
  pub alike : Alike 2 calls other_calls
  pub explains : Explains smallest other_calls second whole_tape shown other_tape
