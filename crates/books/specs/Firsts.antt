-- The first number below a limit that fails a test.
use Rattle.std.specs.Prelude.{◌≡◌, ℕ, ◌<◌, ◌≤◌, Bool, true, false}
use Rattle.std.proofs.Common.{sym, ap, ◌∙◌, get_or, zero-add, arith}
use Rattle.std.specs.List.{range_with_len, prefix_len}
use Rattle.std.proofs.lemmas.List.FromFn.{get_or-range_with_len, length-range_with_len}
use Rattle.std.proofs.lemmas.List.Sums.{prefix_len-le-length, prefix_len_is, prefix_len_passes, prefix_len_stops}

module _ (p : ℕ → Bool) (n : ℕ) where
  nth : (k : ℕ) → k < n → get_or (range_with_len 0 n) k 0 ≡ k
  nth k l = get_or-range_with_len 0 n k 0 l ∙ zero-add k

  pub first_most : prefix_len p (range_with_len 0 n) ≤ n
  first_most = omega (arith, prefix_len-le-length p (range_with_len 0 n), length-range_with_len 0 n)

  -- where each number before it passes and it does not itself, or is the limit, it is the first
  pub first_is : (j : ℕ) → j ≤ n → ((k : ℕ) → k < j → p k ≡ true) → (j < n → p j ≡ false) → prefix_len p (range_with_len 0 n) ≡ j
  first_is j h before here =
      let long = length-range_with_len 0 n in
      prefix_len_is p (range_with_len 0 n) j 0 (omega arith)
      (λ k l. ap p (nth k (omega arith)) ∙ before k l)
      (λ l. ap p (nth j (omega arith)) ∙ here (omega arith))

  -- each number before the first passes
  pub passes : (k : ℕ) → k < prefix_len p (range_with_len 0 n) → p k ≡ true
  passes k h =
      sym (ap p (nth k (omega (arith, first_most)))) ∙ prefix_len_passes p (range_with_len 0 n) k 0 h

  -- the first fails, unless it is the limit
  pub fails : prefix_len p (range_with_len 0 n) < n → p (prefix_len p (range_with_len 0 n)) ≡ false
  fails h =
      sym (ap p (nth (prefix_len p (range_with_len 0 n)) h))
      ∙ prefix_len_stops p (range_with_len 0 n) 0 (omega (arith, length-range_with_len 0 n))
