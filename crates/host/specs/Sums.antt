-- Sums of hosts.
use Rattle.scheme.specs.Tables.{table_sum}
use Rattle.host.specs.Holdings.{Holding}

-- what two hosts of one count mean together: that count, and the sum of their tables
abbrev pub sum_holding : Holding → Holding → Holding
sum_holding one two = record { count = one.count; table = table_sum one.table two.table }
