use Rattle.family.specs.Vectors.{Vectors}
use Rattle.host.proofs.InTurn.{Promise, both_answer}
use Rattle.host.proofs.sum.SumHost.answer.Goals as goal

pub returns : goal.returns
returns g c =
    let f : Vectors = g.F.Family.vectors c.args.family.now in
    let s = c.args.self.now in
    let one = g.A.Host.holding s.first in
    let two = g.B.Host.holding s.second in
    let done = c.in_ok-answer.ensures in
    let second : Promise two.count two.table f c.args.query.now c.answer.new.sheet c.answer-2.new.sheet c.answer-2.result =
    assumption in
    both_answer f one.count two.count s.equal one.table two.table c.args.query.now c.args.sheet.now
    c.answer.new.sheet done.0 done.1 c.answer-2.new.sheet c.answer-2.result second
