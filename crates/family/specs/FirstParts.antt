-- The first part of a family: its first m positions, with the same dimension.
use Rattle.std.specs.Prelude.{ℕ, min}
use Rattle.family.specs.Vectors.{Vectors, within}

-- A family of fewer than m positions is its own first part, so that this means something for every m.
abbrev pub first_part : ℕ → Vectors → Vectors
first_part m f = record { count = min m f.count; dim = f.dim; u = within m f.dim f.u; v = within m f.dim f.v }
