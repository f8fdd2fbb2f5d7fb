-- What a round promises settles what it comes to with one host as both.
use Rattle.std.proofs.Common.{refl}
use Rattle.session.specs.States.{ready_session}
use Rattle.inquiry.proofs.Playing.{comes_to}
use Rattle.inquiry.proofs.finding.play.Goals as goal

pub returns : goal.returns
returns g c =
    comes_to (ready_session c.args.session) (g.F.Family.vectors c.args.family.now) (g.H.Host.holding c.args.host.now) c.args.position
    _ _ c.round-reading.result.1
    (record {
      first_query = c.requires.first_query;
      second_query = c.requires.second_query;
      first_sheet = c.requires.first_sheet;
      second_sheet = c.requires.second_sheet;
    })
    (record {
      refused = λ e k. (c.round-reading.ensures.refused e k).1;
      leaves = λ k. (c.round-reading.ensures.played k).0;
      reads = λ k. c.round-reading.ensures.entry k (λ i l. refl);
    })
