-- The numbers that words write in base ten.
use Rattle.std.specs.Prelude.{ℕ, cond, ◌&&◌, List, length, nat_lt, min}
use Rattle.std.specs.Str.{all_ascii_digits}
use Rattle.std.specs.Str.Parse.{digits_value, without_leading_plus}

-- The number that a word writes in base ten, with a plus before it or none, where it is at most `most`; of a larger one, and of a
-- word that writes none, `most`.
abbrev pub number_up_to : ℕ → List ℕ → ℕ
number_up_to most word =
    let digits = without_leading_plus word in
    cond (nat_lt 0 (length digits) && all_ascii_digits digits) (min (digits_value 10 digits) most) most
