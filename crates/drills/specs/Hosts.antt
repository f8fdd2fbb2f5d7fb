-- Hosts: what a host of the drills means, a single one or a sum.
use Rattle.host.specs.Holdings.{Holding, WellHeld}
use Rattle.host.specs.Sums.{sum_holding}
use Rattle.host.specs.SumsLemmas.{sum_held}
use Rattle.drills.specs.Singles.{single_holding, single_held}
use Rattle.drills.specs.declared.hosts.Any.{Any}
use Rattle.drills.specs.declared.hosts.Any.TheVariants.{One, Two, Three, Four}

abbrev pub any_holding : Any → Holding
any_holding (One h) = single_holding h
any_holding (Two s) = sum_holding (single_holding s.first) (single_holding s.second)
any_holding (Three s) =
    sum_holding
    (sum_holding (single_holding s.first.first) (single_holding s.first.second))
    (single_holding s.second)
any_holding (Four s) =
    sum_holding
    (sum_holding (single_holding s.first.first) (single_holding s.first.second))
    (sum_holding (single_holding s.second.first) (single_holding s.second.second))

pub any_held : (h : Any) → WellHeld (any_holding h)
any_held (One h) = single_held h
any_held (Two s) = sum_held _ _ s.equal (single_held s.first) (single_held s.second)
any_held (Three s) =
    sum_held _ _ s.equal
    (sum_held _ _ s.first.equal (single_held s.first.first) (single_held s.first.second))
    (single_held s.second)
any_held (Four s) =
    sum_held _ _ s.equal
    (sum_held _ _ s.first.equal (single_held s.first.first) (single_held s.first.second))
    (sum_held _ _ s.second.equal (single_held s.second.first) (single_held s.second.second))
