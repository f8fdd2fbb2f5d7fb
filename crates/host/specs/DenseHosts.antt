-- Dense hosts, as their contracts read them.
use Rattle.std.specs.Prelude.{ℕ, List}
use Rattle.host.specs.declared.dense.Dense.{Dense}

-- the row that is the table, an entry at each place
abbrev pub table_row : Dense → List ℕ
table_row h = h.table.now
