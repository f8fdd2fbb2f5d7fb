-- Change hosts, as their contracts read them.
use Rattle.std.specs.Prelude.{ℕ, List, take, Option}
use Rattle.host.specs.declared.change.Change.{Change}
use Rattle.host.specs.declared.change_host.ChangeHost.{ChangeHost}
use Rattle.host.specs.Changes.{digit_told}

-- how many entries the table has
abbrev pub change_count : ChangeHost → ℕ
change_count h = h.count

-- how many changes are held
abbrev pub number_held : ChangeHost → ℕ
number_held h = h.held

-- the changes held, in an order that no contract promises
abbrev pub changes_held : ChangeHost → List Change
changes_held h = take h.held h.changes

-- the digit of the change held at a position, if one is
abbrev pub told_by : ChangeHost → ℕ → Option ℕ
told_by h = digit_told (changes_held h)
