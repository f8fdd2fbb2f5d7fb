-- Two hosts of one count, one after the other: where the first has answered, the second refuses nothing.
use Rattle.std.proofs.Common.{◌≡◌, ℕ, List, Some, None, Result, sym, ap, ◌∙◌, subst}
use Rattle.std.proofs.lemmas.Result.{MatchResult-weaker}
use Rattle.std.specs.Result.{MatchResult}
use Rattle.faults.specs.declared.Fault.{Fault}
use Rattle.digits.proofs.Passing.{some≢none}
use Rattle.family.specs.Vectors.{Vectors}
use Rattle.scheme.specs.Answers.{answered, Sheet}
use Rattle.scheme.specs.Tables.{table_sum}
use Rattle.scheme.proofs.FitRows.{answered_fit}
use Rattle.scheme.proofs.Tables.{tables}
use Rattle.host.specs.Holdings.{answer_fault}
use Rattle.host.proofs.Fitness.{Fit, fit_from, fit_passes}

-- what a host of count n and table a promises of an answer, with what the sheet held before and holds after
abbrev pub Promise : {X : Type 0} → ℕ → (ℕ → ℕ) → Vectors → List ℕ → List ℕ → List ℕ → Result X Fault → Type 0
Promise n a f p old new result =
    MatchResult result (λ u. (answer_fault n f p old ≡ None) × (new ≡ answered f a p old))
    (λ e. (answer_fault n f p old ≡ Some e) × (new ≡ old))

module _ (f : Vectors) (m n : ℕ) (equal : m ≡ n) (a b : ℕ → ℕ) (p old between : List ℕ)
    (passed : answer_fault m f p old ≡ None) (first : between ≡ answered f a p old) where
  second_passes : answer_fault n f p between ≡ None
  second_passes =
      let before : Fit m f p old = fit_from m f p old passed in
      fit_passes n f p between record {
        count_is = before.count_is ∙ equal;
        query_fits = before.query_fits;
        sheet_fits = subst (Sheet f) (sym first) (answered_fit f a p old);
      }

  pub both_answer : {X : Type 0} (new : List ℕ) (result : Result X Fault) → Promise n b f p between new result →
      Promise m (table_sum a b) f p old new result
  both_answer new result second =
      MatchResult-weaker result second
      (λ u h. (passed, h.1 ∙ ap (answered f b p) first ∙ tables.sum_answered f a b p old))
      (λ e h. absurd (some≢none e (sym h.0 ∙ second_passes)))
