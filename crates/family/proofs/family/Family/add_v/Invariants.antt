-- The vector is added at the coordinates so far, and the others are as they were.
use Rattle.std.proofs.Common.{◌≡◌, ℕ, ◌<◌, ◌≤◌}
use Rattle.digits.specs.Rows.{at}
use Rattle.family.specs.Added.{added_at}
use Rattle.family.proofs.family.Family.add_v.Given as goal

abbrev pub invariant-loop-c : goal.invariant-loop-c
invariant-loop-c g l = record {
  passed : (k : ℕ) → k < l.c → at l.row k ≡ added_at ((g.Self.Family.vectors l.self).v l.i) l.initial.row k;
  same : (k : ℕ) → l.c ≤ k → at l.row k ≡ at l.initial.row k;
}
