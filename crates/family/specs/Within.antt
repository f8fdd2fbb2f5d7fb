-- Digits told within a count and a dimension, and 0 beyond.
use Rattle.std.specs.Prelude.{◌≡◌, ℕ, ◌<◌, ◌≤◌, ◌&&◌, nat_lt}
use Rattle.std.proofs.Common.{arith}
use Rattle.std.proofs.lemmas.Bool.{lt-ltb, le-ltb, ltb-true, cond-true, cond-false, cond_both, and_from, and_left, and_right, and_parts}
use Rattle.family.specs.Vectors.{Told, within}

pub within_in : (n k : ℕ) (digit : ℕ → ℕ → ℕ) (i c : ℕ) → i < n → c < k → within n k digit i c ≡ digit i c
within_in n k digit i c hi hc = cond-true _ (digit i c) 0 (and_from _ _ (lt-ltb i n hi) (lt-ltb c k hc))

pub within_past_count : (n k : ℕ) (digit : ℕ → ℕ → ℕ) (i c : ℕ) → n ≤ i → within n k digit i c ≡ 0
within_past_count n k digit i c h = cond-false _ (digit i c) 0 (and_left _ _ (le-ltb i n h))

pub within_past_dim : (n k : ℕ) (digit : ℕ → ℕ → ℕ) (i c : ℕ) → k ≤ c → within n k digit i c ≡ 0
within_past_dim n k digit i c h = cond-false _ (digit i c) 0 (and_right (nat_lt i n) _ (le-ltb c k h))

pub within_digit : (n k : ℕ) (digit : ℕ → ℕ → ℕ) → ((i c : ℕ) → i < n → c < k → digit i c < 6) → (i c : ℕ) → within n k digit i c < 6
within_digit n k digit h i c =
    cond_both (nat_lt i n && nat_lt c k) (digit i c) 0 (λ d. d < 6)
    (λ e. let both = and_parts (nat_lt i n) (nat_lt c k) e in h i c (ltb-true i n both.0) (ltb-true c k both.1))
    (λ e. omega arith)

-- what is told of two such vectors
pub told-within : (n k : ℕ) (u v : ℕ → ℕ → ℕ) →
    ((i c : ℕ) → i < n → c < k → u i c < 6) → ((i c : ℕ) → i < n → c < k → v i c < 6) →
    Told (record { count = n; dim = k; u = within n k u; v = within n k v })
told-within n k u v hu hv = record {
  u_digit = within_digit n k u hu;
  v_digit = within_digit n k v hv;
  u_past_count = within_past_count n k u;
  v_past_count = within_past_count n k v;
  u_past_dim = within_past_dim n k u;
  v_past_dim = within_past_dim n k v;
}
