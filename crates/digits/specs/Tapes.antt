-- Tapes: rows of digits that a client draws at random.
use Rattle.std.specs.Prelude.{ℕ, List}
use Rattle.digits.specs.Rows.{reduced}

-- each random byte gives its remainder by 6
abbrev pub drawn : List ℕ → List ℕ
drawn bytes = reduced bytes
