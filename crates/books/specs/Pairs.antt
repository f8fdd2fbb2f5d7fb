-- The pairs of positions in the order in which they are tried, and the first that breaks the matching rule.
use Rattle.std.specs.Prelude.{◌≡◌, ℕ, ◌+◌, ◌*◌, ◌<◌, Bool, cond, ◌⊎◌, Some, None, Option, ◌==◌, nat_eq}
use Rattle.std.specs.List.{range_with_len, prefix_len}
use Rattle.std.specs.Option.{option_map}
use Rattle.faults.specs.declared.Fault.{Fault}
use Rattle.faults.specs.Faults.{unmatched_fault}
use Rattle.family.specs.Vectors.{Vectors, allowed, Allowed, pairing}

-- whether a pair of positions keeps the matching rule
abbrev pub fits : Vectors → ℕ → ℕ → Bool
fits f i j = allowed i j (pairing f i j)

abbrev pub Keeps : Vectors → ℕ → ℕ → Type 0
Keeps f i j = Allowed i j (pairing f i j)

-- a pair that breaks the rule, where each pair before it, by i and then by j, keeps it
pub record FirstUnmatched (f : Vectors) (i j : ℕ) : Type 0 where
  pub below : (i < f.count) × (j < f.count)
  pub breaks : Keeps f i j → ⊥
  pub before : (a b : ℕ) → a < f.count → b < f.count → (a < i) ⊎ ((a ≡ i) × (b < j)) → Keeps f a b

-- the first j that does not fit with i, or the count where each does
unfoldable pub bad_partner : Vectors → ℕ → ℕ
bad_partner f i = prefix_len (fits f i) (range_with_len 0 f.count)

-- the first i with which some j does not fit, or the count where there is none
unfoldable pub bad_position : Vectors → ℕ
bad_position f = prefix_len (λ i. nat_eq (bad_partner f i) f.count) (range_with_len 0 f.count)

abbrev pub bad_pair : Vectors → Option (ℕ × ℕ)
bad_pair f = cond (bad_position f == f.count) None (Some (bad_position f, bad_partner f (bad_position f)))

abbrev pub pairs_fault : Vectors → Option Fault
pairs_fault f = option_map (λ p. unmatched_fault p.0 p.1) (bad_pair f)

-- how many pairs are tried of so many positions, up to the first bad pair: n for each i before its own, and in its own row those up to j
abbrev pub tried : ℕ → Option (ℕ × ℕ) → ℕ
tried n None = n * n
tried n (Some p) = p.0 * n + p.1 + 1
