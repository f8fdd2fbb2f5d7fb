use Rattle.words.proofs.Spreading.{PassedOwn}
use Rattle.words.proofs.words.within.spread_within.Given as goal

abbrev pub invariant-loop-c : goal.invariant-loop-c
invariant-loop-c l = PassedOwn l.c-items l.c-index l.amount l.e l.initial.elements l.elements
