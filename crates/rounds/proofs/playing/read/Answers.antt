-- Answers that the check would find too, but of sheets that are swapped it would search to its limits for each.
use Rattle.std.proofs.Common.{rules, ◌≡◌, ap, ◌∙◌}
use Rattle.scheme.specs.Sessions.{after_recovery}
use Rattle.session.specs.States.{waiting_session}
use Rattle.rounds.specs.Rounds.{with_carried}
use Rattle.rounds.proofs.playing.read.Goals as goal

pub returns-clause-reading : goal.returns-clause-reading
returns-clause-reading g c =
    let told : c.map.result ≡ with_carried c.args.carried c.recover-session.result.1 = search rules fits 100 in
    told ∙ ap (with_carried c.args.carried) c.recover-session.ensures.outcome

pub returns-clause-after : goal.returns-clause-after
returns-clause-after g c =
    c.recover-session.ensures.after ∙ ap (λ read. after_recovery read (waiting_session c.args.waiting)) c.recover-session.ensures.outcome
