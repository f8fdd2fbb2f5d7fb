-- The worked cases hold: the checker reckons them out.
use Rattle.std.proofs.Common.{refl}
use Rattle.faults.specs.declared.Layer.TheVariants.{Session as SessionLayer}
use Rattle.faults.specs.Faults.{position_fault, spent_fault}
use Rattle.digits.specs.Sums.{total}
use Rattle.digits.specs.Elements.{times_digit}
use Rattle.digits.specs.Ring.{sum_of}
use Rattle.words.specs.Marks.{mark}
use Rattle.words.specs.Places.{choose}
use Rattle.words.specs.Words.{word_digit}
use Rattle.words.specs.FamilyCases.{smallest}
use Rattle.words.proofs.FamilyNumbers.{family_cases}
use Rattle.scheme.specs.Answers.{answered}
use Rattle.scheme.specs.Queries.{second_query}
use Rattle.scheme.specs.Recovery.{sheets_weighed}
use Rattle.scheme.specs.Sessions.{outcome}
use Rattle.scheme.specs.Runs.{takes, declines, recovers, abandons, none, more}
use Rattle.worked.specs.WorkedCases.{WorkedCases}
use Rattle.worked.specs.WorkedSession.{first_sheet, second_sheet, lone_value, no_value}
use Rattle.worked.proofs.LawNumbers.{law_numbers}

pub worked : WorkedCases
unfolding total sum_of times_digit mark choose word_digit answered second_query sheets_weighed outcome
worked =
    record {
      families = family_cases;
      constants = (refl, refl, refl, refl, refl);
      query = refl;
      first_answer = refl;
      shifted = refl;
      comes_to = refl;
      reads = refl;
      run =
          more (takes _ smallest 1 3 3 refl)
          (more (recovers _ 1 1 smallest first_sheet second_sheet)
          (more (takes _ smallest 0 3 3 refl)
          (more (abandons _ 0 _)
          (more (takes _ smallest 1 3 3 refl)
          (more (recovers _ 1 0 smallest lone_value no_value)
          (more (declines _ smallest 2 3 3 (position_fault SessionLayer 2) refl)
          (more (declines _ smallest 1 3 3 (spent_fault 0) refl) none)))))));
      law = law_numbers;
      looks_alike = refl;
      at_odds = refl;
      no_entry = (refl, refl, refl);
      refusals = record {
        opening = (refl, refl);
        count = refl;
        dimension = refl;
        first_row = refl;
        second_row = refl;
        position = refl;
        spent = refl;
        nothing = refl;
        its_count = refl;
        its_dimension = refl;
        first_length = refl;
        second_length = refl;
        first_digit = refl;
        second_digit = refl;
        its_entry = refl;
      };
    }
