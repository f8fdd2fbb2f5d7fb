-- The bytes so far are reduced, and the others stand as they came.
use Rattle.std.proofs.Common.{◌≡◌, ℕ, ◌%◌, ◌<◌, ◌≤◌}
use Rattle.digits.specs.Rows.{at}
use Rattle.digits.proofs.rows.reduce.Given as goal

abbrev pub invariant-loop-digit : goal.invariant-loop-digit
invariant-loop-digit l =
    ((k : ℕ) → k < l.digit-index → at l.row k ≡ at l.initial.row k % 6)
    × ((k : ℕ) → l.digit-index ≤ k → at l.row k ≡ at l.initial.row k)
