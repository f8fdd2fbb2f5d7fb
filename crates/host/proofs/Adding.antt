-- Entries added one after the other come to answering with the table that has them all.
use Rattle.std.proofs.Common.{◌≡◌, ℕ, ◌+◌, ◌-◌, ◌*◌, ◌/◌, ◌%◌, ◌<◌, List, sym, ap, ◌∙◌, subst, zero-mul, refl, arith}
use Rattle.std.proofs.lemmas.Bool.Decides.{nat_tests}
use Rattle.std.proofs.lemmas.List.FromFn.{fill_by_all}
use Rattle.digits.specs.Rows.{at}
use Rattle.digits.specs.Sums.{same}
use Rattle.digits.proofs.Sums.{total_none}
use Rattle.family.specs.Vectors.{Vectors}
use Rattle.scheme.specs.Answers.{exponent, power_sum, answer, answered, sheet_size, Query, Sheet}
use Rattle.scheme.specs.Tables.{table_sum}
use Rattle.scheme.proofs.FitRows.{answered_fit}
use Rattle.scheme.proofs.Tables.{tables}
use Rattle.host.specs.Entries.{single}

-- what a sheet holds now: the answer of the table a, added to what it held before
abbrev pub Added : Vectors → (ℕ → ℕ) → List ℕ → List ℕ → List ℕ → Type 0
Added f a p sheet now = now ≡ answered f a p sheet

-- At the positions below n, the table b is a with one more entry: a has 0 at position i, and b has d there.
pub record OneMore (n : ℕ) (a b : ℕ → ℕ) (i d : ℕ) : Type 0 where
  pub free : a i ≡ 0
  pub entry : b i ≡ d
  pub digits : (k : ℕ) → k < n → b k < 6
  pub others : (k : ℕ) → k < n → (k ≡ i → ⊥) → b k ≡ a k

sum_at : {n i d : ℕ} {a b : ℕ → ℕ} → OneMore n a b i d → (k : ℕ) → k < n → table_sum a (single i d) k ≡ b k
sum_at more k l =
    let small = more.digits k l in
    let same = more.others k l in
    grind (arith, nat_tests, more.free, more.entry)

same_at : {n i d : ℕ} {a b : ℕ → ℕ} → OneMore n a b i d → d ≡ 0 → (k : ℕ) → k < n → a k ≡ b k
same_at more zero k l = let same = more.others k l in grind (arith, more.free, more.entry)

-- weights that are all 0
sum_none : (f : Vectors) (w : ℕ → ℕ) (p : List ℕ) (r : ℕ) → ((k : ℕ) → k < f.count → w k ≡ 0) → power_sum f w p r ≡ 0
sum_none f w p r zeros =
    ap (λ n. n % 6)
    (total_none f.count (λ k. w k * same (exponent f p k) r)
    (λ k l. ap (λ n. n * same (exponent f p k) r) (zeros k l) ∙ zero-mul (same (exponent f p k) r)))

module _ (f : Vectors) (p sheet : List ℕ) (fit : Sheet f sheet) where
  -- the start of a loop that adds entries: a table of nothing but zeros adds nothing
  pub none_added : (a : ℕ → ℕ) → ((k : ℕ) → k < f.count → a k ≡ 0) → Added f a p sheet sheet
  unfolding answered
  none_added a zeros =
      fill_by_all (λ x. (at sheet x + answer f a p x) % 6) sheet (sheet_size f.dim) 0 fit.0
      (λ x l.
      let u : ℕ → ℕ = λ k. f.u k (x / 6 - 1) in
      let value = sum_none f a p x zeros in
      let element = sum_none f (λ k. a k * u k) p (x % 6) (λ k b. ap (λ n. n * u k) (zeros k b) ∙ zero-mul (u k)) in
      let digit = fit.1 x in
      grind (arith, nat_tests))

  -- what its steps find is a sheet
  pub still_fit : (a : ℕ → ℕ) (now : List ℕ) → Added f a p sheet now → Sheet f now
  still_fit a now is = subst (Sheet f) (sym is) (answered_fit f a p sheet)

  module _ (query : Query f p) where
    -- tables that agree at positions answer alike
    alike : (a b : ℕ → ℕ) → ((k : ℕ) → k < f.count → a k ≡ b k) → answered f a p sheet ≡ answered f b p sheet
    alike a b same_table = tables.same_entries f a b same_table (answered f a) (λ q s k h. refl) p sheet query fit

    -- a step: the entry's answer on top of that of the table so far
    pub next_added : {a b : ℕ → ℕ} {i d : ℕ} → OneMore f.count a b i d → (now : List ℕ) → Added f a p sheet now →
        Added f b p sheet (answered f (single i d) p now)
    next_added {a} {b} {i} {d} more now is =
        ap (answered f (single i d) p) is ∙ tables.sum_answered f a (single i d) p sheet ∙ alike (table_sum a (single i d)) b (sum_at more)

    -- a step at an entry of 0, which is passed over
    pub next_passed : {a b : ℕ → ℕ} {i d : ℕ} → OneMore f.count a b i d → d ≡ 0 → (now : List ℕ) → Added f a p sheet now →
        Added f b p sheet now
    next_passed {a} {b} more zero now is = is ∙ alike a b (same_at more zero)
