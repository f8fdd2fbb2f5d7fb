-- The coordinates so far are spread over.
use Rattle.family.specs.Spreads.{Passed}
use Rattle.family.proofs.family.Family.spread.Given as goal

abbrev pub invariant-loop-c : goal.invariant-loop-c
invariant-loop-c g l = Passed ((g.Self.Family.vectors l.self).u l.i) l.amount l.e l.c l.initial.elements l.elements
