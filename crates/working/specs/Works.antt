-- What a working of the code means.
use Rattle.inquiry.specs.Findings.{findings}
use Rattle.working.specs.declared.reckoning.Reckoning.{Reckoning}
use Rattle.working.specs.declared.work.Work.{Work}
use Rattle.working.specs.Workings.{Reckoned, Working}

abbrev pub reckoned : Reckoning → Reckoned
reckoned r = record {
  y1 = r.y1.digits;
  y2 = r.y2.digits;
  y3 = r.y3.digits;
  y4 = r.y4.digits;
  w = r.w.digits;
  x = r.x.digits;
}

-- the tape digits are the first query
abbrev pub working : Work → Working
working w = record {
  findings = findings w.found;
  tape = w.found.first.items;
  shift = w.shift;
  reckoned = reckoned w.reckoning;
}
