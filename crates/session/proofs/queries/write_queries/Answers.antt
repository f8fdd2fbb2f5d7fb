use Rattle.std.proofs.Common.{◌∙◌}
use Rattle.session.proofs.Copies.{added_copy}
use Rattle.session.proofs.queries.write_queries.Goals as goal

pub returns-clause-second : goal.returns-clause-second
returns-clause-second g c = c.add_v.ensures ∙ added_copy _ _ _ _ _ c.copy-2.ensures c.reduce.ensures
