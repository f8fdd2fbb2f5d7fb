use Rattle.std.proofs.Common.{rules}
use Rattle.rounds.proofs.Asked.{zeroed, sheet_given}
use Rattle.rounds.proofs.playing.ask.Goals as goal

pub unwrap-requires : goal.unwrap-requires
unwrap-requires g c =
    let f = g.F.Family.vectors c.args.family.now in
    (sheet_given _ f _ _ _ _ _ c.answer.ensures c.requires.counted c.requires.query (zeroed f _ _ c.requires.long (search rules))).0

pub returns : goal.returns
returns g c =
    let f = g.F.Family.vectors c.args.family.now in
    (sheet_given _ f _ _ _ _ _ c.answer.ensures c.requires.counted c.requires.query (zeroed f _ _ c.requires.long (search rules))).1
