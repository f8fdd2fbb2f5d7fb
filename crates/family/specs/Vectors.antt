-- A family of vectors, as promises speak of it, and when it is a matching family.
use Rattle.std.specs.Prelude.{◌≡◌, ℕ, ◌<◌, ◌≤◌, Bool, cond, ◌&&◌, ◌||◌, ◌⊎◌, ◌==◌, ◌≢◌, nat_lt}
use Rattle.digits.specs.Sums.{product}

-- a count of positions, a dimension, and digit c of the vectors u(i) and v(i)
pub record Vectors : Type 0 where
  pub count : ℕ
  pub dim : ℕ
  pub u : ℕ → ℕ → ℕ
  pub v : ℕ → ℕ → ℕ

-- what is told at positions below n and coordinates below k; beyond, it is 0
abbrev pub within : ℕ → ℕ → (ℕ → ℕ → ℕ) → ℕ → ℕ → ℕ
within n k digit i c = cond (nat_lt i n && nat_lt c k) (digit i c) 0

-- u(i) times v(j)
abbrev pub pairing : Vectors → ℕ → ℕ → ℕ
pairing f i j = product f.dim (f.u i) (f.v j)

-- what the matching rule wants of the product at two positions that differ
abbrev pub Apart : ℕ → Type 0
Apart r = (r ≡ 1) ⊎ (r ≡ 3) ⊎ (r ≡ 4)

-- whether a product is one that the matching rule allows at positions i and j, as a test and as a fact
abbrev pub allowed : ℕ → ℕ → ℕ → Bool
allowed i j r = cond (i == j) (r == 0) (r == 1 || (r == 3 || r == 4))

abbrev pub Allowed : ℕ → ℕ → ℕ → Type 0
Allowed i j r = (i ≡ j → r ≡ 0) × ((i ≢ j) → Apart r)

-- the matching rule: u(i) times v(i) is 0, and u(i) times v(j) is 1, 3 or 4 for all i other than j
pub record Matches (f : Vectors) : Type 0 where
  pub alike : (i : ℕ) → i < f.count → pairing f i i ≡ 0
  pub apart : (i j : ℕ) → i < f.count → j < f.count → (i ≢ j) → Apart (pairing f i j)

-- the limits of a family's count and dimension
pub record Limits (f : Vectors) : Type 0 where
  pub some : 1 ≤ f.count
  pub few : f.count ≤ 1048576
  pub wide : 1 ≤ f.dim
  pub narrow : f.dim ≤ 4096

-- what is told are digits, and beyond the last position or coordinate they are 0
pub record Told (f : Vectors) : Type 0 where
  pub u_digit : (i c : ℕ) → f.u i c < 6
  pub v_digit : (i c : ℕ) → f.v i c < 6
  pub u_past_count : (i c : ℕ) → f.count ≤ i → f.u i c ≡ 0
  pub v_past_count : (i c : ℕ) → f.count ≤ i → f.v i c ≡ 0
  pub u_past_dim : (i c : ℕ) → f.dim ≤ c → f.u i c ≡ 0
  pub v_past_dim : (i c : ℕ) → f.dim ≤ c → f.v i c ≡ 0

-- a matching family
pub record MatchingFamily (f : Vectors) : Type 0 where
  pub limits : Limits f
  pub told : Told f
  pub matches : Matches f
