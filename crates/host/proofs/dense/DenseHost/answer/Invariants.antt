-- The entries so far are added.
use Rattle.host.proofs.Adding.{Added}
use Rattle.host.proofs.RowTables.{first_entries}
use Rattle.host.proofs.dense.DenseHost.answer.Given as goal

abbrev pub invariant-loop-i : goal.invariant-loop-i
invariant-loop-i g l =
    Added (g.F.Family.vectors l.family) (first_entries l.amount-items l.i) l.query l.initial.sheet l.sheet
