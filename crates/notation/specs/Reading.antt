-- What `parse` reads is the number that a word writes.
use Rattle.std.proofs.Common.{◌≡◌, ℕ, ◌+◌, ◌^◌, ◌<◌, ◌&&◌, cond, true, List, length, nat_lt, min, Result, Ok, Err, arith}
use Rattle.std.specs.Result.{OkIff, result_unwrap_or}
use Rattle.std.specs.Str.{all_ascii_digits}
use Rattle.std.specs.Str.Parse.{IsNumeral, digits_value, without_leading_plus, ParsesUnsigned}
use Rattle.std.proofs.lemmas.Bool.Decides.{nat_tests}
use Rattle.std.proofs.lemmas.Str.Parse.{IsNumeralModel, numerals_by_value, tells_all_ascii_digits}
use Rattle.notation.specs.Numbers.{number_up_to}

own : IsNumeralModel (λ ds. all_ascii_digits ds ≡ true) (digits_value 10)
own = numerals_by_value _ tells_all_ascii_digits

read : {E : Type 0} (most limit : ℕ) (ds : List ℕ) (r : Result ℕ E) → most + 1 ≡ limit →
    OkIff r (IsNumeral 10 ds × (digits_value 10 ds < limit)) (digits_value 10 ds) →
    result_unwrap_or r most ≡ cond (nat_lt 0 (length ds) && all_ascii_digits ds) (min (digits_value 10 ds) most) most
read most limit ds (Ok n) e h = let digits = own.from ds h.0.0.1 in grind (arith, nat_tests)
read most limit ds (Err error) e h = let digits = own.to ds in grind (arith, nat_tests)

-- at a type of k bits
pub read_unsigned : {E : Type 0} (k most : ℕ) (word : List ℕ) (r : Result ℕ E) → most + 1 ≡ 2 ^ k → ParsesUnsigned k 10 word r →
    result_unwrap_or r most ≡ number_up_to most word
read_unsigned k most word r e h = read most (2 ^ k) (without_leading_plus word) r e h
