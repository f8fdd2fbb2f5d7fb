-- A row of digits within the limits of a count is a table that is held well.
use Rattle.std.specs.Prelude.{ℕ, ◌≤◌, List, length}
use Rattle.std.proofs.lemmas.List.{get_or_past}
use Rattle.digits.specs.Rows.{Digits}
use Rattle.host.specs.Holdings.{WellHeld}
use Rattle.host.specs.Dense.{dense_holding}

pub dense_held : (xs : List ℕ) → 1 ≤ length xs → length xs ≤ 1048576 → Digits xs → WellHeld (dense_holding xs)
dense_held xs some few digits = record {
  some = some;
  few = few;
  digits = digits;
  past = λ i h. get_or_past xs i 0 h;
}
