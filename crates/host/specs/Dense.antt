-- Tables given as a row: the dense host.
use Rattle.std.specs.Prelude.{ℕ, List, length, Option}
use Rattle.faults.specs.declared.Fault.{Fault}
use Rattle.faults.specs.declared.Layer.TheVariants.{Host as HostLayer}
use Rattle.digits.specs.Rows.{at}
use Rattle.digits.specs.Refusals.{or_else, limit_fault, digits_fault}
use Rattle.host.specs.Holdings.{Holding}

-- what is amiss with a row as a table: its count, else its first byte above 5
abbrev pub dense_fault : List ℕ → Option Fault
dense_fault xs = or_else (limit_fault HostLayer 1 1048576 (length xs)) (digits_fault xs)

-- what a row means as a table: an entry at each place
abbrev pub dense_holding : List ℕ → Holding
dense_holding xs = record { count = length xs; table = at xs }
