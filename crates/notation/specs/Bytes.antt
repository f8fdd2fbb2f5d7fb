-- The bytes that a word writes as hexadecimal digits.
use Rattle.std.specs.Prelude.{ℕ, ◌+◌, ◌*◌, ◌-◌, cond, ◌&&◌, List, [], ◌∷◌, nat_le}

-- what one digit stands for: 0 to 9, or a to f in small letters; any other letter stands for 0
abbrev pub nibble : ℕ → ℕ
nibble c = cond (nat_le 48 c && nat_le c 57) (c - 48) (cond (nat_le 97 c && nat_le c 102) (c - 97 + 10) 0)

-- the bytes that a word writes, two letters each; a letter without a second writes none
abbrev pub hex_bytes : List ℕ → List ℕ
hex_bytes [] = []
hex_bytes (alone ∷ []) = []
hex_bytes (high ∷ low ∷ letters) = (nibble high * 16 + nibble low) ∷ hex_bytes letters
