-- A reader before and after it has taken bytes off the front.
use Rattle.std.specs.Prelude.{◌≡◌, ℕ, drop}
use Rattle.books.specs.declared.reader.Reader.{Reader}

-- so many bytes are taken off what is left, in the same book
pub record Advanced (len : ℕ) (old new : Reader) : Type 0 where
  pub whole : new.whole ≡ old.whole
  pub rest : new.rest.now ≡ drop len old.rest.now
