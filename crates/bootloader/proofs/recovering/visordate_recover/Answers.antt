use Rattle.std.proofs.Common.{arith}
use Rattle.bootloader.proofs.Statuses.{where_taken, where_refused}
use Rattle.bootloader.proofs.Readings.{step_read, step_odds, entry_read}
use Rattle.bootloader.proofs.recovering.visordate_recover.Goals as goal

pub returns-clause-read : goal.returns-clause-read
returns-clause-read c = λ s count dim zero.
    step_read _ _ _ _ _ _ _ s count dim _ (entry_read _ _ (where_taken _ _ _ _ c.write_entry.ensures c.status.ensures zero))

pub returns-clause-at_odds : goal.returns-clause-at_odds
returns-clause-at_odds c = λ s count dim odd.
    let (e, number, kept) = where_refused _ _ _ _ 8 (λ z. omega arith) c.write_entry.ensures c.status.ensures odd in
    step_odds _ _ _ _ _ _ _ s count dim e number kept.0
