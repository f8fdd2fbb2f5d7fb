-- Rows of digits as bytes.
use Rattle.std.specs.Prelude.{ℕ, List, map, min}

-- a number above 255 stands as 255, which is no digit either
abbrev pub byte_row : List ℕ → List ℕ
byte_row ns = map (λ n. min n 255) ns
