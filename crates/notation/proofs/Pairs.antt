-- The bytes that the pairs of a word's letters write.
use Rattle.std.proofs.Common.{◌≡◌, ℕ, zero, suc, ◌+◌, ◌*◌, ◌/◌, List, [], ◌∷◌, length, map, ap, arith, rules}
use Rattle.std.specs.Prelude.{slice_index}
use Rattle.std.specs.Simd.{first_chunks}
use Rattle.notation.specs.Bytes.{nibble, hex_bytes}

-- a byte for each pair, and none for a last letter alone
abbrev pub pair_bytes : ℕ → List ℕ → List ℕ
pair_bytes k word = map (λ pair. nibble (slice_index pair 0) * 16 + nibble (slice_index pair 1)) (first_chunks 2 k word)

pairs : (k : ℕ) (word : List ℕ) → length word / 2 ≡ k → pair_bytes k word ≡ hex_bytes word
pairs zero [] h = search rules
pairs zero (a ∷ []) h = search rules
pairs zero (a ∷ b ∷ rest) h = absurd (omega arith)
pairs (suc k) [] h = absurd (omega arith)
pairs (suc k) (a ∷ []) h = absurd (omega arith)
pairs (suc k) (a ∷ b ∷ rest) h = ap (λ t. (nibble a * 16 + nibble b) ∷ t) (pairs k rest (omega arith))

pub pairs_bytes : (word : List ℕ) → pair_bytes (length word / 2) word ≡ hex_bytes word
pairs_bytes word = pairs (length word / 2) word (search rules)
