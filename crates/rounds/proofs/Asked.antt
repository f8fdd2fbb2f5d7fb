-- What a host is asked in a round: a query, and a zeroed sheet, of which a host of the family's count refuses nothing.
use Rattle.std.proofs.Common.{◌≡◌, ℕ, List, replicate, Some, None, Ok, Err, Result, MatchResult, sym, ap, subst, ◌∙◌, rules, IsOk}
use Rattle.faults.specs.declared.Fault.{Fault}
use Rattle.digits.proofs.Passing.{some≢none}
use Rattle.family.specs.Vectors.{Vectors}
use Rattle.host.specs.Holdings.{answer_fault}
use Rattle.host.proofs.Fitness.{Fit, fit_passes}
use Rattle.scheme.specs.Answers.{Query, answered, zero_sheet, sheet_size, sheet_of}
use Rattle.scheme.specs.Queries.{second_query}
use Rattle.scheme.proofs.FitRows.{zeros, zero_fit, second_fit}

-- a row of zeros that is as long as a sheet
pub zeroed : (f : Vectors) (n : ℕ) (xs : List ℕ) → n ≡ sheet_size f.dim → xs ≡ replicate n 0 → xs ≡ zero_sheet f
zeroed f n xs long is = is ∙ ap (λ m. replicate m 0) long ∙ zeros (sheet_size f.dim)

-- A host's answer into a zeroed sheet, by the answering rule: it is not refused, and gives the sheet of the host's table.
pub sheet_given : (n : ℕ) (f : Vectors) (a : ℕ → ℕ) (query before after : List ℕ) (result : Result (Unit {0}) Fault) →
    MatchResult result
    (λ _. (answer_fault n f query before ≡ None) × (after ≡ answered f a query before))
    (λ e. (answer_fault n f query before ≡ Some e) × (after ≡ before)) →
    n ≡ f.count → Query f query → before ≡ zero_sheet f →
    IsOk result × (after ≡ sheet_of f a query)
sheet_given n f a query before after (Ok x) h is fit zero = (search rules, h.1 ∙ ap (answered f a query) zero)
sheet_given n f a query before after (Err e) h is fit zero =
    let fits : Fit n f query (zero_sheet f) = record { count_is = sym is; query_fits = fit; sheet_fits = zero_fit f } in
    absurd (some≢none e (sym h.0 ∙ ap (answer_fault n f query) zero ∙ fit_passes n f query (zero_sheet f) fits))

-- the second query of a request is a query
pub second_is_query : (f : Vectors) (t : ℕ) (z query : List ℕ) → query ≡ second_query f t z → Query f query
second_is_query f t z query is = subst (Query f) (sym is) (second_fit f t z)
