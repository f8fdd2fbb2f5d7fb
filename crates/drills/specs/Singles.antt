-- Singles: what a single host of the drills means.
use Rattle.host.specs.Holdings.{Holding, WellHeld}
use Rattle.host.specs.Dense.{dense_holding}
use Rattle.host.specs.DenseLemmas.{dense_held}
use Rattle.host.specs.Changes.{change_holding}
use Rattle.host.specs.ChangeHosts.{change_count, changes_held, told_by}
use Rattle.host.specs.ChangesLemmas.{changes_held_well}
use Rattle.drills.specs.declared.single.Single.{Single}
use Rattle.drills.specs.declared.single.Single.TheVariants.{Dense, Change}

-- what the host means that it is
abbrev pub single_holding : Single → Holding
single_holding (Dense h) = dense_holding h.table.now
single_holding (Change h) = change_holding (change_count h) (told_by h)

pub single_held : (s : Single) → WellHeld (single_holding s)
single_held (Dense h) = dense_held h.table.now h.some h.few h.digits
single_held (Change h) = changes_held_well h.count (changes_held h) h.some h.few h.below h.small
