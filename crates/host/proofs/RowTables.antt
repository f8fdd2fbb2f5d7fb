-- Tables given as a row: the first entries of one, and one entry more.
use Rattle.std.proofs.Common.{ℕ, ◌+◌, List, take, arith}
use Rattle.std.proofs.lemmas.Grind.{common_steps}
use Rattle.digits.specs.Rows.{at, Digits}
use Rattle.digits.proofs.DigitRows.{digits-take}
use Rattle.host.proofs.Adding.{OneMore}

-- the table of the first i entries of a row
abbrev pub first_entries : List ℕ → ℕ → ℕ → ℕ
first_entries xs i = at (take i xs)

pub one_entry : (n : ℕ) (xs : List ℕ) (i : ℕ) → Digits xs → OneMore n (first_entries xs i) (first_entries xs (i + 1)) i (at xs i)
one_entry n xs i digits = record {
  free = grind (arith, common_steps);
  entry = grind (arith, common_steps);
  digits = λ k l. digits-take (i + 1) xs digits k;
  others = λ k l ne. grind (arith, common_steps);
}
