-- What `parse` reads from a field of digits.
use Rattle.std.proofs.Common.{◌≡◌, ℕ, ◌^◌, ◌<◌, true, List, length, Ok, Err, Result, arith, rules}
use Rattle.std.specs.Char.{is_ascii_digit}
use Rattle.std.specs.List.{list_all}
use Rattle.std.specs.Result.{result_ok, OkIff}
use Rattle.std.specs.Str.{IsUtf8}
use Rattle.std.specs.Str.Parse.{digits_value, ParsesUnsigned}
use Rattle.std.proofs.lemmas.Bool.Decides.{nat_tests}
use Rattle.std.proofs.lemmas.Fmt.{IsAscii-from_digits}
use Rattle.std.proofs.lemmas.Str.{IsUtf8-from_ascii}
use Rattle.std.proofs.lemmas.Str.Parse.{IsNumeralModel, numerals_by_value, parse_digits}
use Rattle.inquiry.specs.Grammar.{number_in}

abbrev pub AreDigits : List ℕ → Type 0
AreDigits ds = list_all is_ascii_digit ds ≡ true

own : IsNumeralModel AreDigits (digits_value 10)
own = numerals_by_value AreDigits (search rules)

-- digits are text
pub text : (ds : List ℕ) → AreDigits ds → IsUtf8 ds
text ds h = IsUtf8-from_ascii ds (IsAscii-from_digits ds (own.to ds h))

read : {E : Type 0} (ds : List ℕ) (r : Result ℕ E) →
    OkIff r ((0 < length ds) × (digits_value 10 ds < 2 ^ 32)) (digits_value 10 ds) → AreDigits ds → result_ok r ≡ number_in ds
read ds (Ok n) h d = grind (arith, nat_tests)
read ds (Err e) h d = grind (arith, nat_tests)

-- what `parse` gives of digits is their number
pub parsed : {E : Type 0} (ds : List ℕ) (r : Result ℕ E) → ParsesUnsigned 32 10 ds r → AreDigits ds →
    result_ok r ≡ number_in ds
parsed ds r h d = read ds r (parse_digits own 32 ds r h d) d

pub ruleset numerals = (text, parsed)
