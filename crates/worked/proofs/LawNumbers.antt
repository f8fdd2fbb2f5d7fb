-- The law cases hold: the checker reckons them out.
use Rattle.std.proofs.Common.{[], ◌∷◌, Ok, Err, refl, inl, inr, arith}
use Rattle.faults.specs.declared.Layer.TheVariants.{Session as SessionLayer}
use Rattle.faults.specs.Faults.{length_fault, position_fault, spent_fault}
use Rattle.digits.specs.Elements.{times_digit}
use Rattle.digits.specs.Ring.{sum_of}
use Rattle.digits.specs.Sums.{total}
use Rattle.digits.proofs.DigitRows.{digits_from}
use Rattle.words.specs.FamilyCases.{smallest}
use Rattle.words.specs.Marks.{mark}
use Rattle.words.specs.Places.{choose}
use Rattle.words.specs.Words.{word_digit}
use Rattle.scheme.specs.Answers.{answered}
use Rattle.scheme.specs.Law.{here, later, end, requests, recoveries, abandonments}
use Rattle.scheme.specs.Queries.{second_query}
use Rattle.scheme.specs.Recovery.{sheets_weighed}
use Rattle.scheme.specs.Runs.{asked, declined, recovered, abandoned, takes, declines, recovers, abandons, none, more}
use Rattle.scheme.specs.Sessions.{outcome}
use Rattle.worked.specs.LawCases.{other_tape, LawCases}
use Rattle.worked.specs.WorkedSession.{no_value, short_row, other_short_row}

pub law_numbers : LawCases
unfolding total sum_of times_digit mark choose word_digit answered second_query sheets_weighed outcome
law_numbers =
    record {
      first_view = refl;
      second_view = refl;
      refused = refl;
      digits = λ i h. digits_from (2 ∷ 5 ∷ []) refl i;
      first_lookup = here;
      last_lookup = later (later (later (later here)));
      alike =
          requests (inr (omega arith, omega arith))
          (recoveries
          (requests (inr (omega arith, omega arith))
          (abandonments (requests (inr (omega arith, omega arith)) (recoveries (requests (inl refl) (requests (inr (omega arith, omega arith)) end)))))));
      explains = record {
        digits = digits_from other_tape refl;
        long = refl;
        unused = refl;
        events_then =
            asked (3 ∷ 2 ∷ 3 ∷ []) (4 ∷ 1 ∷ 3 ∷ []) ∷ recovered (Err (length_fault 1)) ∷ asked (2 ∷ 5 ∷ 0 ∷ []) (3 ∷ 5 ∷ 5 ∷ []) ∷ abandoned
            ∷ asked (1 ∷ 5 ∷ 4 ∷ []) (2 ∷ 4 ∷ 4 ∷ []) ∷ recovered (Ok 0) ∷ declined (position_fault SessionLayer 2) ∷ declined (spent_fault 0) ∷ [];
        end_then = _;
        runs =
            more (takes _ smallest 0 3 3 refl)
            (more (recovers _ 0 _ smallest short_row other_short_row)
            (more (takes _ smallest 1 3 3 refl)
            (more (abandons _ 1 _)
            (more (takes _ smallest 0 3 3 refl)
            (more (recovers _ 0 _ smallest no_value no_value)
            (more (declines _ smallest 2 3 3 (position_fault SessionLayer 2) refl)
            (more (declines _ smallest 0 3 3 (spent_fault 0) refl) none)))))));
        looks = refl;
      };
    }
