-- Entries: tables told entry by entry.
use Rattle.std.specs.Prelude.{ℕ, ◌*◌}
use Rattle.digits.specs.Sums.{same}

-- the table that holds d at position i, and 0 elsewhere
abbrev pub single : ℕ → ℕ → ℕ → ℕ
single i d j = d * same i j
