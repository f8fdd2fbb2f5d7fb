-- The first number of a range that a search finds.
use Rattle.std.proofs.Common.{◌≡◌, ℕ, ◌+◌, ◌<◌, ◌≤◌, Bool, true, false, IsTrue, MatchOption, IfSome, IsSomeAnd, Some, None, Option, sym, subst, ap, ◌∙◌, zero-add, arith}
use Rattle.std.proofs.iter.Yields.{nat_range_steps}
use Rattle.std.proofs.iter.runs.Sources.{range_runs}
use Rattle.std.proofs.lemmas.Iterator.Adapters.{option_map_id}
use Rattle.std.specs.Fn.{Called}
use Rattle.std.specs.Iterator.Runs.{Run, SomeRun, AllItemsGive, IsFirstToGive, CallKeepsClosure}
use Rattle.std.specs.List.{range_with_len, prefix_len}
use Rattle.std.specs.declared.ops.Range.{Range}
use denote.Param.Members.{Mut}
use Rattle.books.specs.Firsts.{first_is}

-- what `find` gives over 0..m is the first number that fails the test, or none is
pub found_first : (p : ℕ → Bool) (n m : ℕ) (r : Option ℕ) → m ≡ n →
    MatchOption r ((k : ℕ) → 0 ≤ k → k < m → p k ≡ true) (λ j. (0 ≤ j) × (j < m) × (p j ≡ false) × ((k : ℕ) → 0 ≤ k → k < j → p k ≡ true)) →
    MatchOption r (prefix_len p (range_with_len 0 n) ≡ n) (λ j. (j ≡ prefix_len p (range_with_len 0 n)) × (j < n))
found_first p n m None e all = first_is p n n (omega arith) (λ k l. all k (omega arith) (omega arith)) (λ l. absurd (omega arith))
found_first p n m (Some j) e found =
    (sym (first_is p n j (omega arith) (λ k l. found.3 k (omega arith) l) (λ l. found.2)), omega arith)

-- `find_map` over 0..n, said of the numbers in it and not of a run
module _ {F B : Type 0} (g : Mut F (ℕ × Unit {0}) (Option B)) (f : F) (n : ℕ) (s : Range ℕ) (zero : s.start ≡ 0) (end : s.end ≡ n) where
  at_place : (p : Run nat_range_steps) → p.from ≡ s → (k : ℕ) → k < p.len → p.at k ≡ Some k
  at_place p e k l =
      sym (option_map_id (p.at k)) ∙ (range_runs p p.seen).3 k l
      ∙ ap (λ a. Some (a + k)) (ap (λ (t : Range ℕ). t.start) e ∙ zero) ∙ ap Some (zero-add k)

  most_len : (p : Run nat_range_steps) → p.from ≡ s → p.len ≤ n
  most_len p e = omega (arith, (range_runs p p.seen).0, ap (λ (t : Range ℕ). t.start) e, ap (λ (t : Range ℕ). t.end) e)

  whole_len : (p : Run nat_range_steps) → p.from ≡ s → p.whole ≡ true → p.len ≡ n
  whole_len p e w = omega (arith, (range_runs p p.seen).1 w, ap (λ (t : Range ℕ). t.start) e, ap (λ (t : Range ℕ). t.end) e)

  pub first_mapped : (Miss : ℕ → Type 0) (Hit : ℕ → B → Type 0) (r : Option B) →
      SomeRun nat_range_steps s (λ p. MatchOption r (IsTrue p.whole × AllItemsGive p g f None) (λ y. (i : ℕ) × (i < p.len) × (p.len ≡ i + 1) × IsFirstToGive p g f (Some y) None i)) →
      CallKeepsClosure g f →
      ((k : ℕ) → Called g f (k, tt) None f → Miss k) → ((k : ℕ) (y : B) → Called g f (k, tt) (Some y) f → Hit k y) →
      MatchOption r ((k : ℕ) → k < n → Miss k) (λ y. (i : ℕ) × (i < n) × Hit i y × ((k : ℕ) → k < i → Miss k))
  first_mapped Miss Hit None run keeps miss hit = λ k l.
      let all : run.0.len ≡ n = whole_len run.0 run.1 run.2.0 in
      miss k (subst (λ o. IfSome o (λ x. Called g f (x, tt) None f)) (at_place run.0 run.1 k (omega arith)) (run.2.1 keeps k))
  first_mapped Miss Hit (Some y) run keeps miss hit =
      let i : ℕ = run.2.0 in
      let most = most_len run.0 run.1 in
      let first = run.2.3 keeps in (
        i,
        omega arith,
        hit i y (subst (λ o. IsSomeAnd o (λ x. Called g f (x, tt) (Some y) f)) (at_place run.0 run.1 i run.2.1) first.0),
        (λ k l. miss k (subst (λ o. IsSomeAnd o (λ x. Called g f (x, tt) None f)) (at_place run.0 run.1 k (omega arith)) (first.1 k l))),
      )
