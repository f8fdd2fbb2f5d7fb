use Rattle.scheme.proofs.Recovering.{recovering}
use Rattle.scheme.proofs.Hiding.{hiding}
use Rattle.words.specs.Words.{word_vectors}
use Rattle.bootloader.proofs.Statuses.{where_taken}
use Rattle.bootloader.proofs.Requests.{step_asked, tests}
use Rattle.bootloader.proofs.asking.visordate_request.Goals as goal

pub returns-clause-step : goal.returns-clause-step
returns-clause-step c = λ s count dim rest zero.
    let wrote = where_taken _ _ _ _ c.write_request.ensures c.status.ensures zero in
    step_asked c.args.h c.args.q c.args.position c.args.tape.now c.args.first.now c.args.second.now c.args.shift.now _ _ _
    wrote.0 wrote.1 wrote.2 wrote.3 s count dim rest

pub returns-clause-digits : goal.returns-clause-digits
returns-clause-digits c = λ zero.
    let wrote = where_taken _ _ _ _ c.write_request.ensures c.status.ensures zero in
    (tests c.args.h c.args.q c.args.position c.args.tape.now c.args.first.now c.args.second.now c.args.shift.now wrote.0).digits

pub returns-clause-recovers : goal.returns-clause-recovers
returns-clause-recovers c = recovering (word_vectors c.args.h c.args.q)

pub returns-clause-hides : goal.returns-clause-hides
returns-clause-hides c = hiding (word_vectors c.args.h c.args.q)
