use Rattle.std.proofs.Common.{◌≡◌, rules}
use Rattle.turns.specs.First.{blank}
use Rattle.turns.proofs.Asking.{asked}
use Rattle.turns.proofs.first.ask.Goals as goal

pub returns-clause-sheet : goal.returns-clause-sheet
returns-clause-sheet g c =
    let zeros : c.fill.new.self ≡ blank c.args.sheet.now = search rules in
    asked (g.F.Family.vectors c.args.family.now) (g.H.Host.holding c.args.host.now) c.args.query.now c.args.sheet.now _ _
    c.answer.result zeros c.answer.ensures
