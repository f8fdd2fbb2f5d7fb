-- The sheet so far has the answers of the changes so far.
use Rattle.host.specs.ChangeHosts.{changes_held}
use Rattle.host.proofs.Adding.{Added}
use Rattle.host.proofs.OneChange.{first_changes}
use Rattle.host.proofs.change_host.as_host.ChangeHostHost.answer.Given as goal

abbrev pub invariant-loop-change : goal.invariant-loop-change
invariant-loop-change g l =
    Added (g.F.Family.vectors l.family) (first_changes (changes_held l.self) l.change-index) l.query l.initial.sheet l.sheet
